-- A relay whose serializer changed in its outboxes alone.
use Rattle.std.proofs.Common.{◌≡◌, ◌∙◌, List, ap}
use Rattle.sat_label.specs.declared.label.Label.{Label}
use Rattle.sat_serial.specs.Outboxes.{SerializerSeen}
use Rattle.sat_store_example.specs.Relays.{RelaySeen, IsRelay}

pub kept : (r : RelaySeen) (s : SerializerSeen) (boxes : List (List Label)) → IsRelay r → s ≡ record r.serializer { outboxes = boxes } → IsRelay (record r { serializer = s })
kept r s boxes k e = record {
  tree = ap (λ (q : SerializerSeen). q.tree) e ∙ k.tree;
  number = ap (λ (q : SerializerSeen). q.number) e ∙ k.number;
  sites = k.sites;
  inner = k.inner;
}
