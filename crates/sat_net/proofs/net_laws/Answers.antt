use Rattle.sat_net.proofs.Edges.{leaves, stays}
use Rattle.sat_net.proofs.Kept.{net-fresh, stay-nets}
use Rattle.sat_net.proofs.Stands.{starts, sends, keeps, hops, takes, kills, others, rests, sites-find, seats-are, hops-find, hops-may-go, leads-to, routes-to}
use Rattle.sat_net.proofs.net_laws.Goals as goal

pub returns : goal.returns
returns c = record {
  fresh = net-fresh;
  nets = stay-nets;
  starts = starts;
  sends = sends;
  keeps = keeps;
  hops = hops;
  takes = takes;
  kills = kills;
  others = others;
  rests = rests;
  sites_find = sites-find;
  seats = seats-are;
  hops_find = hops-find;
  may_hop = hops-may-go;
  leads = leads-to;
  routes = routes-to;
  leaves = leaves;
  stays = stays;
}
