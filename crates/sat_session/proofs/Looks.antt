-- What is looked up before a read.
use Rattle.std.proofs.Common.{◌≡◌, ◌<◌, ◌≤◌, ◌&&◌, ℕ, Bool, true, false, nat_lt, nat_le, not, List, Option, Some, None, refl, sym, ap, ◌∙◌, subst, arith}
use Rattle.std.proofs.lemmas.Bool.{and_from}
use Rattle.std.proofs.lemmas.Bool.Decides.{nat_tests}
use Rattle.sat_label.specs.declared.carried.Carried.{Carried}
use Rattle.sat_label.specs.declared.label.Label.{Label}
use Rattle.sat_label.specs.declared.limits.TheConstants.{TS_END}
use Rattle.sat_label.specs.declared.node.NodeName.{NodeName}
use Rattle.sat_label.specs.declared.node.NodeName.TheVariants as named
use Rattle.sat_laws.proofs.Labels.{some_is}
use Rattle.sat_act.specs.declared.answer.Answer.{Answer}
use Rattle.sat_act.specs.declared.answer.Answer.TheVariants as ans
use Rattle.sat_act.specs.declared.answer.Refusal.TheVariants as why
use Rattle.sat_act.specs.Answers.{refused_if}
use Rattle.sat_act.specs.Deployed.{Deployed}
use Rattle.sat_act.specs.Parts.{replicates}
use Rattle.sat_model.specs.Fits.{is_point}
use Rattle.sat_model.specs.Input as given
use Rattle.sat_model.specs.Reply.{site_answer, read_by}
use Rattle.sat_model.specs.State.{SiteState, Version}
use Rattle.sat_label.specs.Versions.{Version as Held}
use Rattle.sat_site.specs.Seen.{SiteSeen}
use Rattle.sat_site.specs.Stands.{StandsSite, version_seen}
use Rattle.sat_machines.specs.Plain.{is_plain}
use Rattle.sat_machines.specs.Sites.{Stands, number_of}
use Rattle.sat_session.specs.Replies.{HasSpare, Looked}

read-is : (d : Deployed) (i : ℕ) (s : SiteState) (n : ℕ) (seen : Carried) (r : Answer) → r ≡ site_answer d i s (given.Read seen n) → r ≡ read_by d i n (s.store n)
unfolding site_answer
read-is d i s n seen r e = e

-- what is read where this version is shown
abbrev version_by : Option Version → Answer
version_by o = elim o [ None ↦ ans.ReadNone | Some p ↦ ans.ReadSome p.label p.value ]

none-plain : (b : Bool) (o : Option Version) (r : Answer) → (b ≡ true → o ≡ None) → r ≡ refused_if (not b) why.NotHere (version_by o) → is_plain r ≡ true
none-plain true o r none e = ap is_plain e ∙ ap (λ (p : Option Version). is_plain (version_by p)) (none refl)
none-plain false o r none e = ap is_plain e

some-spare : (b : Bool) (o : Option Version) (l : Label) (value : List ℕ) (r : Answer) → (b ≡ true → o ≡ Some (record { label = l; value = value })) → r ≡ refused_if (not b) why.NotHere (version_by o) → is_plain r ≡ false → Some (ans.ReadSome l value) ≡ Some r
some-spare true o l value r at e f = ap (λ (y : Answer). Some y) (sym (e ∙ ap version_by (at refl)))
some-spare false o l value r at e f = absurd (let w : is_plain r ≡ true = ap is_plain e in cc)

time-is : (a b : ℕ) → a ≤ b → nat_le a b ≡ true
time-is a b le = grind (arith, nat_tests)

site-is : (a b : ℕ) → a < b → nat_lt a b ≡ true
site-is a b lt = grind (arith, nat_tests)

-- there is no version
pub none-looked : (d : Deployed) (i : ℕ) (s : SiteState) (n : ℕ) → (replicates d n i ≡ true → s.store n ≡ None) → Looked d i s n None
none-looked d i s n none = record {
  points = λ kept p e. absurd (let w : None ≡ Some p = sym (none kept) ∙ e in cc);
  spares = λ seen r e f. absurd (let w : is_plain r ≡ true = none-plain (replicates d n i) (s.store n) r none (read-is d i s n seen r e) in cc);
}

pub looked_none : (d : Deployed) (name : NodeName) (x : SiteSeen) (s : SiteState) (n : ℕ) → Stands d name x s → ((e : Deployed) (i : ℕ) (t : SiteState) → StandsSite e i x t → replicates e n i ≡ true → t.store n ≡ None) → Looked d (number_of name) s n None
looked_none d (named.Site i) x s n st f = none-looked d i s n (f d i s st)
looked_none d (named.Serializer e z) x s n st f = absurd st
looked_none d (named.Gear e z) x s n st f = absurd st

-- there is this one
pub some-looked : (d : Deployed) (i : ℕ) (s : SiteState) (n : ℕ) (l : Label) (value : List ℕ) → (replicates d n i ≡ true → s.store n ≡ Some (record { label = l; value = value })) → l.point.ts ≤ TS_END → l.point.site < d.sites → Looked d i s n (Some (ans.ReadSome l value))
some-looked d i s n l value at le lt = record {
  points = λ kept p e. subst (λ (q : Version). is_point d q.label.point ≡ true) (some_is (record { label = l; value = value }) p (sym (at kept) ∙ e))
      (and_from (nat_le l.point.ts TS_END) (nat_lt l.point.site d.sites) (time-is l.point.ts TS_END le) (site-is l.point.site d.sites lt));
  spares = λ seen r e f. some-spare (replicates d n i) (s.store n) l value r at (read-is d i s n seen r e) f;
}

pub looked_some : (d : Deployed) (name : NodeName) (x : SiteSeen) (s : SiteState) (n : ℕ) (version : Held) (l : Label) (value : List ℕ) (sites : ℕ) → Stands d name x s → ((e : Deployed) (i : ℕ) (t : SiteState) → StandsSite e i x t → replicates e n i ≡ true → t.store n ≡ version_seen (Some version)) →
    l ≡ version.label → value ≡ version.value → l.point.ts ≤ TS_END → l.point.site < sites → sites ≡ d.sites → Looked d (number_of name) s n (Some (ans.ReadSome l value))
looked_some d (named.Site i) x s n version l value sites st f label same le lt here =
    some-looked d i s n l value (λ kept. f d i s st kept ∙ (λ j. Some (record { label = sym label j; value = sym same j }))) le (subst (λ (m : ℕ). l.point.site < m) here lt)
looked_some d (named.Serializer e z) x s n version l value sites st f label same le lt here = absurd st
looked_some d (named.Gear e z) x s n version l value sites st f label same le lt here = absurd st
