-- New sessions are sessions.
use Rattle.std.proofs.Common.{◌≡◌, ◌<◌, ◌≤◌, ◌==◌, ◌&&◌, ℕ, Bool, true, false, nat_lt, nat_le, List, [], length, Option, Some, None, slice_get, if◌then◌else◌, refl, sym, ap, ◌∙◌, subst, arith}
use Rattle.std.proofs.lemmas.Bool.{and_from}
use Rattle.sat_label.specs.declared.limits.TheConstants.{TS_END}
use Rattle.sat_label.specs.Order.{zero_point}
use Rattle.sat_laws.proofs.Labels.{some_is}
use Rattle.sat_act.specs.declared.deployment.ClientLine.{ClientLine}
use Rattle.sat_act.specs.Deployed.{Deployed}
use Rattle.sat_act.specs.Limits.{IsDeployment}
use Rattle.sat_act.specs.Parts.{home, carried, moving, seat}
use Rattle.sat_client.specs.declared.client.Client.{Client}
use Rattle.sat_client.specs.Clients.{first_seat}
use Rattle.sat_model.specs.Fits.{is_time, is_site, is_point, is_goal, is_carried}
use Rattle.sat_stitch.specs.Places.{Session, Client as Owner, Operator}
use Rattle.sat_opened.proofs.Numbers.{is-less, not-less}
use Rattle.sat_session.specs.declared.noted.Noted.{Noted}
use Rattle.sat_session.specs.Notes.{SessionSeen, session_at, nothing_carried}
use Rattle.sat_session.specs.Sessions.{client_after, IsSession}

pub of-client : (d : Deployed) (c : ℕ) → c < length d.clients → session_at d c ≡ Owner c
of-client d c lt = ap (λ (b : Bool). if b then Owner c else Operator) (is-less c (length d.clients) lt)

self-up : (n : ℕ) → n ≤ n
self-up n = omega arith

less-up : (a n : ℕ) → a < n → a ≤ n
less-up a n lt = omega arith

pub of-operator : (d : Deployed) → session_at d (length d.clients) ≡ Operator
of-operator d = ap (λ (b : Bool). if b then Owner (length d.clients) else Operator) (not-less (length d.clients) (length d.clients) (self-up (length d.clients)))

client-first : (d : Deployed) (c site : ℕ) → home d c ≡ Some site → first_seat site ≡ client_after d (Owner c) []
unfolding carried moving seat
client-first d c site e = λ i. record { carried = nothing_carried; seat = sym e i }

none-carried : (d : Deployed) → 0 < d.sites → is_carried d nothing_carried ≡ true
none-carried d lt = and_from (is_point d zero_point) true (and_from (is_time 0) (is_site d 0) refl (is-less 0 d.sites lt)) refl

home-site : (d : Deployed) (c site : ℕ) → IsDeployment d → home d c ≡ Some site → site < d.sites
unfolding home
home-site d c site dep e = go (slice_get d.clients c) refl e
  where
    go : (o : Option ClientLine) → slice_get d.clients c ≡ o → ◌≡◌ {A = Option ℕ} (elim o [ None ↦ None | Some line ↦ Some line.site ]) (Some site) → site < d.sites
    go None at w = absurd (cc)
    go (Some line) at w = subst (λ (n : ℕ). n < d.sites) (some_is line.site site w) (dep.homes c line at)

-- of a client
pub client_begins : (d : Deployed) (c site : ℕ) → IsDeployment d → c < length d.clients → home d c ≡ Some site → IsSession d (record { number = c; client = first_seat site; lamport = 0; noted = [] })
client_begins d c site dep lt at = record {
  limit = less-up c (length d.clients) lt;
  rises = tt;
  last = refl;
  notes = tt;
  made = client-first d c site at ∙ ap (λ (s : Session). client_after d s []) (sym (of-client d c lt));
  carries = none-carried d dep.some_site;
  sits = is-less site d.sites (home-site d c site dep at);
}

-- as the code makes it
pub client_made : (d e : Deployed) (c site : ℕ) (client : Client) (noted : List Noted) → e ≡ d → IsDeployment d → c < length d.clients → home d c ≡ Some site → client ≡ first_seat site → noted ≡ [] →
    IsSession e (record { number = c; client = client; lamport = 0; noted = noted })
client_made d e c site client noted same dep lt at seated none =
    subst (λ (z : Deployed). IsSession z (record { number = c; client = client; lamport = 0; noted = noted })) (sym same)
    (subst (λ (z : SessionSeen). IsSession d z) (λ i. record { number = c; client = sym seated i; lamport = 0; noted = sym none i }) (client_begins d c site dep lt at))
