-- What a process says, message by message.
use Rattle.std.proofs.Common.{◌≡◌, ◌⊎◌, ℕ, ◌+◌, ◌<◌, ◌≤◌, ◌^◌, ◌-◌, ◌==◌, min, Bool, true, false, List, [], ◌∷◌, ◌++◌, length, Option, Some, None, get_or, refl, sym, ap, ◌∙◌, subst, inl, inr, arith}
use Rattle.std.proofs.lemmas.Bool.Decides.{nat_tests}
use Rattle.sat_label.specs.declared.node.NodeName.{NodeName}
use Rattle.sat_node.specs.declared.kept.Kept.{Kept}
use Rattle.sat_node.specs.declared.kept.Made.{Made}
use Rattle.sat_node.specs.Puts.{put_by}
use Rattle.sat_node.specs.Seen.{NodeSeen}
use Rattle.sat_message.specs.declared.message.Message.{Message}
use Rattle.sat_message.specs.Numbering.{EndsAt, GivesOne}
use Rattle.sat_letter.specs.Letters.{letter, letter_allows}
use Rattle.sat_host_laws.specs.Messages.{IsSent}
use Rattle.sat_handed.specs.declared.posting.Spoken.{Spoken}
use Rattle.sat_handed.specs.declared.posting.Spoken.TheVariants as spoken
use Rattle.sat_handed.specs.Posting.{Posts}
use Rattle.sat_handed.specs.Transports.{Grows, Posted, posted}
use Rattle.sat_process.specs.Processes.{ProcessSeen, SameProcess}
use Rattle.sat_process.specs.Speaking.{AllSaid, IsNext, IsSaid, Said, said_none, said_one, said_passed, said_ended, Says, SaysAll, SaysLink, SaysMany, SaysOne, SaysThen, SaidOf, SaidEach, each_none, each_one, SaysEach, SameOthers}
use Rattle.sat_process.specs.Spoken.{Spoke, SpokeEach, SpokeOf}

-- ---- letters of a transport

append_none : {X : Type 0} (xs : List X) → xs ++ [] ≡ xs
append_none [] = refl
append_none (x ∷ xs) = ap (λ (l : List _). x ∷ l) (append_none xs)

append_twice : {X : Type 0} (xs ys zs : List X) → (xs ++ ys) ++ zs ≡ xs ++ (ys ++ zs)
append_twice [] ys zs = refl
append_twice (x ∷ xs) ys zs = ap (λ (l : List _). x ∷ l) (append_twice xs ys zs)

-- some letters and then others
pub grows_both : (a b c : Option (List Posted)) (ps qs : List Posted) → Grows a b ps → Grows b c qs → Grows a c (ps ++ qs)
grows_both None b c ps qs p q = tt
grows_both (Some l) None c ps qs p q = absurd (cc (p))
grows_both (Some l) (Some m) c ps qs p q =
    let same : m ≡ l ++ ps = cc (p) in
    q ∙ ap (λ (x : List Posted). let o : Option (List Posted) = Some (x ++ qs) in o) same ∙ ap (λ (x : List Posted). let o : Option (List Posted) = Some x in o) (append_twice l ps qs)

-- some letters and then none
pub grows_quiet : (a b c : Option (List Posted)) (ps : List Posted) → Grows a b ps → Grows b c [] → Grows a c ps
grows_quiet a b c ps p q = subst (λ (x : List Posted). Grows a c x) (append_none ps) (grows_both a b c ps [] p q)

-- none and then some
pub quiet_grows : (a b c : Option (List Posted)) (ps : List Posted) → Grows a b [] → Grows b c ps → Grows a c ps
quiet_grows a b c ps p q = grows_both a b c [] ps p q

pub grows_none : (a : Option (List Posted)) → Grows a a []
grows_none None = tt
grows_none (Some l) = ap (λ (x : List Posted). let o : Option (List Posted) = Some x in o) (sym (append_none l))

-- one message more was passed
abbrev pub IsPassed : Spoken → Type 0
IsPassed spoken.Nothing = ⊥
IsPassed spoken.Sent = Unit {0}
IsPassed spoken.Lost = Unit {0}
IsPassed spoken.Unspelled = Unit {0}
IsPassed spoken.Memory = ⊥

pub passed_sent : (s : Spoken) → s ≡ spoken.Sent → IsPassed s
passed_sent s is = subst (λ (x : Spoken). IsPassed x) (sym is) tt

pub passed_lost : (s : Spoken) → s ≡ spoken.Lost → IsPassed s
passed_lost s is = subst (λ (x : Spoken). IsPassed x) (sym is) tt

pub passed_unspelled : (s : Spoken) → s ≡ spoken.Unspelled → IsPassed s
passed_unspelled s is = subst (λ (x : Spoken). IsPassed x) (sym is) tt

-- ---- one message

module _ {I A : Type 0} (puts : ℕ → I → A → Option Made) (ks : List (Kept I A)) where
  pub says_next : (link a b : ℕ) (m : Message) (s : Spoken) (before after : Option (List Posted)) → GivesOne (puts link) ks a b m → IsSent (put_by (puts link) ks) m → Posts link m s before after →
      Says puts ks link a b s before after
  says_next link a b m spoken.Nothing before after gives is p = absurd p
  says_next link a b m spoken.Sent before after gives is p = (m, record { gives = gives; sent = is }, p)
  says_next link a b m spoken.Lost before after gives is p = (m, record { gives = gives; sent = is }, p)
  says_next link a b m spoken.Unspelled before after gives is p = (m, record { gives = gives; sent = is }, p.0, p.1)
  says_next link a b m spoken.Memory before after gives is p = p

  one_said : (link a b : ℕ) (before after : Option (List Posted)) → SaysOne puts ks link a b before after → SaysThen puts ks before after
  one_said link a b before after p =
      record { letters = posted link (letter.spell p.0) ∷ []; said = (record { message = p.0; sent = p.1.sent; bytes = refl }, tt); grows = p.2 }

  pub says_then : (link a b : ℕ) (s : Spoken) (before after : Option (List Posted)) → Says puts ks link a b s before after → SaysThen puts ks before after
  says_then link a b spoken.Nothing before after p = record { letters = []; said = tt; grows = p.1 }
  says_then link a b spoken.Sent before after p = one_said link a b before after p
  says_then link a b spoken.Lost before after p = one_said link a b before after p
  says_then link a b spoken.Unspelled before after p = record { letters = []; said = tt; grows = p.3 }
  says_then link a b spoken.Memory before after p = record { letters = []; said = tt; grows = p }

  all_said : (ps qs : List Posted) → AllSaid puts ks ps → AllSaid puts ks qs → AllSaid puts ks (ps ++ qs)
  all_said [] qs p q = q
  all_said (x ∷ ps) qs p q = (p.0, all_said ps qs p.1 q)

  -- some letters and then others
  pub then_more : (a b c : Option (List Posted)) → SaysThen puts ks a b → SaysThen puts ks b c → SaysThen puts ks a c
  then_more a b c p q = record { letters = p.letters ++ q.letters; said = all_said p.letters q.letters p.said q.said; grows = grows_both a b c p.letters q.letters p.grows q.grows }

  pub then_none : (a : Option (List Posted)) → SaysThen puts ks a a
  then_none a = record { letters = []; said = tt; grows = grows_none a }

  -- ---- message after message

  pub many_none : (link a : ℕ) (x : Option (List Posted)) → SaysMany puts ks link a a 0 x x
  many_none link a x = record { letters = []; said = said_none; grows = grows_none x }

  many_sent : (link a b c n : ℕ) (x y z : Option (List Posted)) → SaysMany puts ks link a b n x y → SaysOne puts ks link b c y z → SaysMany puts ks link a c (n + 1) x z
  many_sent link a b c n x y z so p =
      record { letters = so.letters ++ posted link (letter.spell p.0) ∷ []; said = said_one b c n p.0 so.letters so.said p.1; grows = grows_both x y z so.letters (posted link (letter.spell p.0) ∷ []) so.grows p.2 }

  pub many_more : (link a b c n : ℕ) (s : Spoken) (x y z : Option (List Posted)) → IsPassed s → SaysMany puts ks link a b n x y → Says puts ks link b c s y z → SaysMany puts ks link a c (n + 1) x z
  many_more link a b c n spoken.Nothing x y z is so p = absurd is
  many_more link a b c n spoken.Sent x y z is so p = many_sent link a b c n x y z so p
  many_more link a b c n spoken.Lost x y z is so p = many_sent link a b c n x y z so p
  many_more link a b c n spoken.Unspelled x y z is so p =
      record { letters = so.letters; said = said_passed b c n p.0 so.letters so.said p.1 p.2; grows = grows_quiet x y z so.letters so.grows p.3 }
  many_more link a b c n spoken.Memory x y z is so p = absurd is

  -- there are no more
  pub all_ended : (link most a b c n : ℕ) (x y z : Option (List Posted)) → SaysMany puts ks link a b n x y → EndsAt (puts link) ks b c × Grows y z [] → SaysAll puts ks link most a c n x z
  all_ended link most a b c n x y z so p =
      record { many = record { letters = so.letters; said = said_ended b c n so.letters so.said p.0; grows = grows_quiet x y z so.letters so.grows p.1 }; all = inr p.0.1 }

  pub all_asked : (link most a b n : ℕ) (x z : Option (List Posted)) → n ≡ most → SaysMany puts ks link a b n x z → SaysAll puts ks link most a b n x z
  all_asked link most a b n x z is so = record { many = so; all = inl is }

-- ---- link after link

pub others_none : (link : ℕ) (xs : List ℕ) → SameOthers link xs xs
others_none link xs k other = refl

pub others_both : (link : ℕ) (xs ys zs : List ℕ) → SameOthers link xs ys → SameOthers link ys zs → SameOthers link xs zs
others_both link xs ys zs p q k other = q k other ∙ p k other

less_other : (link k : ℕ) → k < link → (link == k) ≡ false
less_other link k less = grind (arith, nat_tests, less)

more_other : (link k : ℕ) → link + 1 ≤ k → (link == k) ≡ false
more_other link k more = grind (arith, nat_tests, more)

module _ {I A : Type 0} (puts : ℕ → I → A → Option Made) (ks : List (Kept I A)) (most : ℕ) where
  -- what was said stays said where the places of its links stay
  each_kept : (old mid new : List ℕ) (count : ℕ) (ps : List Posted) → SaidEach puts ks most old mid count ps → ((k : ℕ) → k < count → get_or new k 0 ≡ get_or mid k 0) → SaidEach puts ks most old new count ps
  each_kept old mid new count ps (each_none) same = each_none
  each_kept old mid new count ps (each_one link xs ys so of) same =
      each_one link xs ys (each_kept old mid new link xs so (λ k less. same k (omega (arith, less))))
      (subst (λ (b : ℕ). SaidOf puts ks link most (get_or old link 0) b ys) (sym (same link (omega arith))) of)

  -- one link more
  each_more : (old mid new : List ℕ) (count : ℕ) (x y z : Option (List Posted)) → SaysEach puts ks most old mid count x y → ((k : ℕ) → count ≤ k → get_or mid k 0 ≡ get_or old k 0) → SameOthers count mid new →
      SaysLink puts ks count most (get_or mid count 0) (get_or new count 0) y z → SaysEach puts ks most old new (count + 1) x z
  each_more old mid new count x y z so later others p =
      let more = p.1.many.letters in
      record {
        letters = so.letters ++ more;
        said = each_one count so.letters more (each_kept old mid new count so.letters so.said (λ k less. others k (less_other count k less)))
            (subst (λ (a : ℕ). SaidOf puts ks count most a (get_or new count 0) more) (later count (omega arith)) (record { number = p.0; said = p.1.many.said; all = p.1.all }));
        grows = grows_both x y z so.letters more so.grows p.1.many.grows;
      }

  each_start : (old : List ℕ) (x : Option (List Posted)) → SaysEach puts ks most old old 0 x x
  each_start old x = record { letters = []; said = each_none; grows = grows_none x }

-- ---- a process

pub same_none : {D T M I A : Type 0} (x : ProcessSeen D T M I A) → SameProcess x x
same_none x = record { disk = refl; size = refl; node = refl; slips = refl; wanted = refl }

pub same_both : {D T M I A : Type 0} (x y z : ProcessSeen D T M I A) → SameProcess x y → SameProcess y z → SameProcess x z
same_both x y z p q = record { disk = q.disk ∙ p.disk; size = q.size ∙ p.size; node = q.node ∙ p.node; slips = q.slips ∙ p.slips; wanted = q.wanted ∙ p.wanted }

module _ {D T M I A : Type 0} (puts : NodeName → ℕ → I → A → Option Made) (out into : T → Option (List Posted)) where
  pub spoke_none : (x : ProcessSeen D T M I A) → Spoke puts out into x x
  spoke_none x = record { said = then_none (puts x.host.node.name) x.host.node.entries (out x.transport); came = grows_none (into x.transport); same = same_none x }

  pub spoke_both : (x y z : ProcessSeen D T M I A) → Spoke puts out into x y → Spoke puts out into y z → Spoke puts out into x z
  spoke_both x y z p q = record {
    said = then_more (puts x.host.node.name) x.host.node.entries (out x.transport) (out y.transport) (out z.transport) p.said
        (subst (λ (n : NodeSeen M I A). SaysThen (puts n.name) n.entries (out y.transport) (out z.transport)) p.same.node q.said);
    came = grows_quiet (into x.transport) (into y.transport) (into z.transport) [] p.came q.came;
    same = same_both x y z p.same q.same;
  }

  -- what one call said
  pub record SaysNow (link : ℕ) (s : Spoken) (old now : ProcessSeen D T M I A) : Type 0 where
    pub says : Says (puts old.host.node.name) old.host.node.entries link (get_or old.host.cursors link 0) (get_or now.host.cursors link 0) s (out old.transport) (out now.transport)
    pub came : Grows (into old.transport) (into now.transport) []
    pub same : SameProcess old now
    pub others : SameOthers link old.host.cursors now.host.cursors

  pub spoke_now : (link : ℕ) (s : Spoken) (x y : ProcessSeen D T M I A) → SaysNow link s x y → Spoke puts out into x y
  spoke_now link s x y p = record {
    said = says_then (puts x.host.node.name) x.host.node.entries link (get_or x.host.cursors link 0) (get_or y.host.cursors link 0) s (out x.transport) (out y.transport) p.says;
    came = p.came;
    same = p.same;
  }

  says_of : (link : ℕ) (s : Spoken) (x y z : ProcessSeen D T M I A) → SameProcess x y → SaysNow link s y z →
      Says (puts x.host.node.name) x.host.node.entries link (get_or y.host.cursors link 0) (get_or z.host.cursors link 0) s (out y.transport) (out z.transport)
  says_of link s x y z p q = subst (λ (n : NodeSeen M I A). Says (puts n.name) n.entries link (get_or y.host.cursors link 0) (get_or z.host.cursors link 0) s (out y.transport) (out z.transport)) p.node q.says

  pub of_none : (link : ℕ) (x : ProcessSeen D T M I A) → SpokeOf puts out into link 0 x x
  of_none link x = record { many = many_none (puts x.host.node.name) x.host.node.entries link (get_or x.host.cursors link 0) (out x.transport); spoke = spoke_none x; others = others_none link x.host.cursors }

  pub of_more : (link n : ℕ) (s : Spoken) (x y z : ProcessSeen D T M I A) → IsPassed s → SpokeOf puts out into link n x y → SaysNow link s y z → SpokeOf puts out into link (n + 1) x z
  of_more link n s x y z is p q = record {
    many = many_more (puts x.host.node.name) x.host.node.entries link (get_or x.host.cursors link 0) (get_or y.host.cursors link 0) (get_or z.host.cursors link 0) n s (out x.transport) (out y.transport) (out z.transport) is p.many (says_of link s x y z p.spoke.same q);
    spoke = spoke_both x y z p.spoke (spoke_now link s y z q);
    others = others_both link x.host.cursors y.host.cursors z.host.cursors p.others q.others;
  }

  pub of_ended : (link most n : ℕ) (x y z : ProcessSeen D T M I A) → SpokeOf puts out into link n x y → SaysNow link spoken.Nothing y z →
      SaysAll (puts x.host.node.name) x.host.node.entries link most (get_or x.host.cursors link 0) (get_or z.host.cursors link 0) n (out x.transport) (out z.transport)
  of_ended link most n x y z p q = all_ended (puts x.host.node.name) x.host.node.entries link most (get_or x.host.cursors link 0) (get_or y.host.cursors link 0) (get_or z.host.cursors link 0) n (out x.transport) (out y.transport) (out z.transport) p.many (says_of link spoken.Nothing x y z p.spoke.same q)

  pub of_asked : (link most : ℕ) (x z : ProcessSeen D T M I A) → SpokeOf puts out into link most x z →
      SaysAll (puts x.host.node.name) x.host.node.entries link most (get_or x.host.cursors link 0) (get_or z.host.cursors link 0) most (out x.transport) (out z.transport)
  of_asked link most x z p = all_asked (puts x.host.node.name) x.host.node.entries link most (get_or x.host.cursors link 0) (get_or z.host.cursors link 0) most (out x.transport) (out z.transport) refl p.many

  -- what it said behind something else
  pub said_after : (a : Option (List Posted)) (x y : ProcessSeen D T M I A) → Grows a (out x.transport) [] → SaysThen (puts x.host.node.name) x.host.node.entries (out x.transport) (out y.transport) → SameProcess x y → SaysThen (puts y.host.node.name) y.host.node.entries a (out y.transport)
  said_after a x y quiet p same = subst (λ (n : NodeSeen M I A). SaysThen (puts n.name) n.entries a (out y.transport)) (sym same.node)
      (record { letters = p.letters; said = p.said; grows = quiet_grows a (out x.transport) (out y.transport) p.letters quiet p.grows })

  -- ---- link after link

  -- what one call said of a link
  pub record SpokeLink (most link : ℕ) (before all : Bool) (old now : ProcessSeen D T M I A) : Type 0 where
    pub says : all ≡ true → (before ≡ true) × SaysLink (puts old.host.node.name) old.host.node.entries link most (get_or old.host.cursors link 0) (get_or now.host.cursors link 0) (out old.transport) (out now.transport)
    pub others : SameOthers link old.host.cursors now.host.cursors
    pub spoke : Spoke puts out into old now

  pub each_begins : (most : ℕ) (x : ProcessSeen D T M I A) → SpokeEach puts out into most 0 true x x
  each_begins most x = record { each = λ is. each_start (puts x.host.node.name) x.host.node.entries most x.host.cursors (out x.transport); later = λ k le. refl; spoke = spoke_none x }

  pub each_goes : (most count : ℕ) (before all : Bool) (x y z : ProcessSeen D T M I A) → SpokeEach puts out into most count before x y → SpokeLink most count before all y z → SpokeEach puts out into most (count + 1) all x z
  each_goes most count before all x y z p q = record {
    each = λ is. (let s = q.says is in each_more (puts x.host.node.name) x.host.node.entries most x.host.cursors y.host.cursors z.host.cursors count (out x.transport) (out y.transport) (out z.transport) (p.each s.0) p.later q.others
        (subst (λ (n : NodeSeen M I A). SaysLink (puts n.name) n.entries count most (get_or y.host.cursors count 0) (get_or z.host.cursors count 0) (out y.transport) (out z.transport)) p.spoke.same.node s.1));
    later = λ k le. q.others k (more_other count k le) ∙ p.later k (omega (arith, le));
    spoke = spoke_both x y z p.spoke q.spoke;
  }

  -- what it said of each link behind something else
  pub each_after : (most : ℕ) (links : M → ℕ) (cursors : List ℕ) (a : Option (List Posted)) (x y : ProcessSeen D T M I A) → x.host.cursors ≡ cursors → Grows a (out x.transport) [] → SameProcess x y →
      SaysEach (puts x.host.node.name) x.host.node.entries most x.host.cursors y.host.cursors (min (links x.host.node.machine) (2 ^ 16 - 1)) (out x.transport) (out y.transport) →
      SaysEach (puts y.host.node.name) y.host.node.entries most cursors y.host.cursors (min (links y.host.node.machine) (2 ^ 16 - 1)) a (out y.transport)
  each_after most links cursors a x y is quiet same p =
      subst (λ (c : List ℕ). SaysEach (puts y.host.node.name) y.host.node.entries most c y.host.cursors (min (links y.host.node.machine) (2 ^ 16 - 1)) a (out y.transport)) is
      (subst (λ (n : NodeSeen M I A). SaysEach (puts n.name) n.entries most x.host.cursors y.host.cursors (min (links n.machine) (2 ^ 16 - 1)) a (out y.transport)) (sym same.node)
      (record { letters = p.letters; said = p.said; grows = quiet_grows a (out x.transport) (out y.transport) p.letters quiet p.grows }))
