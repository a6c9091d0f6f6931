use Rattle.sat_host.proofs.making.hosts_keep.Goals as goal

pub returns : goal.returns
returns g c = record { all_sites = c.requires.sites; all_serials = c.requires.serials; each_site = c.look_all.ensures; each_serial = c.look_all-2.ensures }
