use Rattle.sat_session.proofs.Begins.{client_made}
use Rattle.sat_session.proofs.session.Session.of_client.Goals as goal

pub invariant_of-result : goal.invariant_of-result
invariant_of-result g c =
    client_made c.args.d.now g.N.Laid.deployment c.args.client c.home-site.result c.new.result c.new-2.result.items c.requires.deployment c.home-site.ensures.limits c.requires.client c.home-site.ensures.home c.new.ensures c.new-2.ensures.items
