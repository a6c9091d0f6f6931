-- What a process says: which letters it hands its transport.
use Rattle.std.specs.Prelude.{◌≡◌, ◌⊎◌, ℕ, ◌+◌, ◌==◌, false, List, [], ◌∷◌, ◌++◌, length, get_or}
use Rattle.std.specs.declared.option.Option.{Option}
use Rattle.sat_node.specs.declared.kept.Kept.{Kept}
use Rattle.sat_node.specs.declared.kept.Made.{Made}
use Rattle.sat_node.specs.Puts.{put_by}
use Rattle.sat_message.specs.declared.message.Message.{Message}
use Rattle.sat_message.specs.Numbering.{EndsAt, GivesOne, put_before}
use Rattle.sat_letter.specs.Letters.{letter, letter_allows}
use Rattle.sat_host_laws.specs.Messages.{IsSent}
use Rattle.sat_handed.specs.declared.posting.Spoken.{Spoken}
use Rattle.sat_handed.specs.declared.posting.Spoken.TheVariants as spoken
use Rattle.sat_handed.specs.Transports.{Grows, Posted, posted}

-- the bytes of a message that the journal put on the letter's link
pub record IsSaid {I A : Type 0} (puts : ℕ → I → A → Option Made) (ks : List (Kept I A)) (p : Posted) : Type 0 where
  pub message : Message
  pub sent : IsSent (put_by (puts p.link) ks) message
  pub bytes : p.bytes ≡ letter.spell message

-- each of these letters is
abbrev pub AllSaid : {I A : Type 0} → (ℕ → I → A → Option Made) → List (Kept I A) → List Posted → Type 0
AllSaid puts ks [] = Unit {0}
AllSaid puts ks (p ∷ ps) = IsSaid puts ks p × AllSaid puts ks ps

-- the transport was handed some letters more, of which each is
pub record SaysThen {I A : Type 0} (puts : ℕ → I → A → Option Made) (ks : List (Kept I A))
    (before after : Option (List Posted)) : Type 0 where
  pub letters : List Posted
  pub said : AllSaid puts ks letters
  pub grows : Grows before after letters

module _ {I A : Type 0} (puts : ℕ → I → A → Option Made) (ks : List (Kept I A)) (link : ℕ) where
  -- the next message behind place a of the journal, and b is the place behind it
  pub record IsNext (a b : ℕ) (m : Message) : Type 0 where
    pub gives : GivesOne (puts link) ks a b m
    pub sent : IsSent (put_by (puts link) ks) m

  -- the transport was handed the bytes of that message
  abbrev pub SaysOne : ℕ → ℕ → Option (List Posted) → Option (List Posted) → Type 0
  SaysOne a b before after = (m : Message) × IsNext a b m × Grows before after (posted link (letter.spell m) ∷ [])

  -- there was no message behind place a; or the next one was handed to the transport, or has no spelling; or memory ran
  -- out, and then that message was passed over or not
  abbrev pub Says : ℕ → ℕ → Spoken → Option (List Posted) → Option (List Posted) → Type 0
  Says a b spoken.Nothing before after = EndsAt (puts link) ks a b × Grows before after []
  Says a b spoken.Sent before after = SaysOne a b before after
  Says a b spoken.Lost before after = SaysOne a b before after
  Says a b spoken.Unspelled before after =
      (m : Message) × IsNext a b m × (letter_allows m ≡ false) × Grows before after []
  Says a b spoken.Memory before after = Grows before after []

  -- from place a to place b all messages were passed in order, each once, and these letters were handed to the
  -- transport: of each message its bytes, but of those that have no spelling
  pub data Said (a : ℕ) : ℕ → ℕ → List Posted → Type 0 where
    said_none : Said a a 0 []
    said_one : (b c n : ℕ) (m : Message) (ps : List Posted) → Said a b n ps → IsNext b c m
        → Said a c (n + 1) (ps ++ posted link (letter.spell m) ∷ [])
    said_passed : (b c n : ℕ) (m : Message) (ps : List Posted) → Said a b n ps → IsNext b c m
        → letter_allows m ≡ false → Said a c (n + 1) ps
    said_ended : (b c n : ℕ) (ps : List Posted) → Said a b n ps → EndsAt (puts link) ks b c → Said a c n ps

  -- so many messages were passed
  pub record SaysMany (a b n : ℕ) (before after : Option (List Posted)) : Type 0 where
    pub letters : List Posted
    pub said : Said a b n letters
    pub grows : Grows before after letters

  -- so many messages were passed: as many as were asked for, or all that there are
  pub record SaysAll (most a b n : ℕ) (before after : Option (List Posted)) : Type 0 where
    pub many : SaysMany a b n before after
    pub all : (n ≡ most) ⊎ (b ≡ length ks)

  -- and that is how many
  abbrev pub SaysLink : ℕ → ℕ → ℕ → Option (List Posted) → Option (List Posted) → Type 0
  SaysLink most a b before after = (n : ℕ) × SaysAll most a b n before after

  -- these letters were handed to the transport: of as many messages as were asked for, or of all that there are
  pub record SaidOf (most a b : ℕ) (letters : List Posted) : Type 0 where
    pub number : ℕ
    pub said : Said a b number letters
    pub all : (number ≡ most) ⊎ (b ≡ length ks)

-- no other link goes on
abbrev pub SameOthers : ℕ → List ℕ → List ℕ → Type 0
SameOthers link old new = (k : ℕ) → (link == k) ≡ false → get_or new k 0 ≡ get_or old k 0

module _ {I A : Type 0} (puts : ℕ → I → A → Option Made) (ks : List (Kept I A)) (most : ℕ) (old new : List ℕ) where
  -- what was said of the links below this one, of one behind the other: of each as many messages as were asked for, or
  -- all that there are, from its old place on
  pub data SaidEach : ℕ → List Posted → Type 0 where
    each_none : SaidEach 0 []
    each_one : (link : ℕ) (ps qs : List Posted) → SaidEach link ps
        → SaidOf puts ks link most (get_or old link 0) (get_or new link 0) qs → SaidEach (link + 1) (ps ++ qs)

  -- the transport was handed these letters
  pub record SaysEach (count : ℕ) (before after : Option (List Posted)) : Type 0 where
    pub letters : List Posted
    pub said : SaidEach count letters
    pub grows : Grows before after letters
