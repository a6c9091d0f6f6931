-- What a process hears, and what its calls then hold.
use Rattle.std.proofs.Common.{◌≡◌, ◌⊎◌, ℕ, ◌+◌, max, List, [], ◌∷◌, ◌++◌, Option, Some, None, Ok, Err, IfOk, IfErr, refl, sym, ap, ◌∙◌, subst, inl, inr}
use Rattle.std.specs.declared.result.Result.{Result}
use Rattle.sat_durable.specs.Disk.{DiskState, LeftOnly}
use Rattle.sat_durable.specs.Machine.{Keeps, Recovers}
use Rattle.sat_durable.proofs.Moments.{left_weaker}
use Rattle.sat_log.specs.Logs.{LogSeen, log_meaning, passing}
use Rattle.sat_node.specs.declared.kept.Body.{Body}
use Rattle.sat_message.specs.declared.message.Message.{Message}
use Rattle.sat_letter.specs.Letters.{letter}
use Rattle.sat_host_laws.specs.Messages.{HostSeen}
use Rattle.sat_handed.specs.declared.handed.Handed.{Handed}
use Rattle.sat_handed.specs.declared.handed.Handed.TheVariants as given
use Rattle.sat_handed.specs.Handed.{body_of, handed_allows}
use Rattle.sat_handed.specs.Transports.{Grows, Posted, posted}
use Rattle.sat_process.specs.declared.hosted.Became.{Became}
use Rattle.sat_process.specs.declared.hosted.Became.TheVariants as became
use Rattle.sat_process.specs.declared.outcomes.Ended.{Ended}
use Rattle.sat_process.specs.declared.outcomes.Heard.{Heard}
use Rattle.sat_process.specs.declared.outcomes.Heard.TheVariants as heard
use Rattle.sat_process.specs.Keeping.{IsJournalAnd, IsJournalOf, IsJournalOr, OnDisk, bodies_of}
use Rattle.sat_process.specs.Letters.{ComesOne}
use Rattle.sat_process.specs.Processes.{Becomes, Ends, EndsHearing, Hears, HearsHanded, HearsThen, LeavesHeard, ProcessSeen, SameInside, SameProcess, disk_ended, ended_transport, transport_ended}
use Rattle.sat_process.specs.Taking.{Takes}
use Rattle.sat_process.proofs.Saying.{grows_quiet}

module _ {D T M I A : Type 0} (state : D → DiskState) (asked : ℕ → I → Option Handed) (took : I → Option Body) where
  -- ---- what is put down

  pub moment_of : (w v : ProcessSeen D T M I A) (log : LogSeen) (given : Handed) (next out : D) → w ≡ v → OnDisk asked took (state w.disk) log w.host → out ≡ next
      → ((bodies : List (List ℕ)) → Keeps log_meaning passing (state w.disk) log bodies → LeftOnly (state w.disk) (state next) (λ c. Recovers log_meaning passing c bodies ⊎ Recovers log_meaning passing c (bodies ++ body_of given ∷ [])))
      → LeftOnly (state v.disk) (state out) (IsJournalOr asked took v.host given)
  moment_of w v log given next out same on is left =
      subst (λ (s : ProcessSeen D T M I A). LeftOnly (state s.disk) (state out) (IsJournalOr asked took s.host given)) same
      (subst (λ (d : D). LeftOnly (state w.disk) (state d) (IsJournalOr asked took w.host given)) (sym is) (left (bodies_of asked took w.host) on.keeps))

  pub takes_of : (w v : ProcessSeen D T M I A) (given : Handed) (new : HostSeen M I A) → w ≡ v → Takes asked took given w.host new → Takes asked took given v.host new
  takes_of w v given new same takes = subst (λ (s : ProcessSeen D T M I A). Takes asked took given s.host new) same takes

  pub settled_of : (w v : ProcessSeen D T M I A) → w ≡ v → LeftOnly (state w.disk) (state w.disk) (IsJournalOf asked took w.host) → LeftOnly (state v.disk) (state v.disk) (IsJournalOf asked took v.host)
  settled_of w v same left = subst (λ (s : ProcessSeen D T M I A). LeftOnly (state s.disk) (state s.disk) (IsJournalOf asked took s.host)) same left

  pub settled_or : (v : ProcessSeen D T M I A) (given : Handed) → LeftOnly (state v.disk) (state v.disk) (IsJournalOf asked took v.host) → LeftOnly (state v.disk) (state v.disk) (IsJournalOr asked took v.host given)
  settled_or v given left = left_weaker (state v.disk) (state v.disk) (IsJournalOf asked took v.host) (IsJournalOr asked took v.host given) left (λ c is. inl is)

  -- ---- what is heard

  module _ (gave : T → Option (List Posted)) (would : HostSeen M I A → Handed → Became) where
    pub heard_nothing : (old mid : ProcessSeen D T M I A) (a b : Option (List Posted)) → SameInside old mid → LeftOnly (state old.disk) (state old.disk) (IsJournalOf asked took old.host) → LeavesHeard asked took old.host a b (state old.disk) (state mid.disk)
    heard_nothing old mid a b same left = inl (subst (λ (d : D). LeftOnly (state old.disk) (state d) (IsJournalOf asked took old.host)) (sym same.disk) left)

    hears-one : (h : Heard) (size link : ℕ) (m : Message) (a b : Option (List Posted)) (old new : HostSeen M I A) → Grows a b (posted link (letter.spell m) ∷ []) → HearsHanded asked took would h size link m old new → Hears asked took would h size a b old new
    hears-one h size link m a b old new came p =
        subst (λ (x : Heard). Hears asked took would x size a b old new) (sym p.1) (record { message = m; came = came; answered = p.2; becomes = p.3 })

    pub heard_message : (old mid : ProcessSeen D T M I A) (link : ℕ) (m : Message) (r : Result (ProcessSeen D T M I A × Heard) (Ended D T)) → SameInside old mid → Grows (gave old.transport) (gave mid.transport) (posted link (letter.spell m) ∷ [])
        → transport_ended r ≡ mid.transport → IfOk r (λ x. HearsHanded asked took would x.1 mid.size link m mid.host x.0.host)
        → IfOk r (λ x. Hears asked took would x.1 old.size (gave old.transport) (gave x.0.transport) old.host x.0.host)
    heard_message old mid link m (Ok x) same came is p =
        subst (λ (t : T). Hears asked took would x.1 old.size (gave old.transport) (gave t) old.host x.0.host) (sym is)
        (hears-one x.1 old.size link m (gave old.transport) (gave mid.transport) old.host x.0.host came
        (subst (λ (n : ℕ). HearsHanded asked took would x.1 n link m old.host x.0.host) same.size
        (subst (λ (h : HostSeen M I A). HearsHanded asked took would x.1 mid.size link m h x.0.host) same.host p)))
    heard_message old mid link m (Err e) same came is p = p

    pub heard_ends : (old mid : ProcessSeen D T M I A) (link : ℕ) (m : Message) (r : Result (ProcessSeen D T M I A × Heard) (Ended D T)) → SameInside old mid → Grows (gave old.transport) (gave mid.transport) (posted link (letter.spell m) ∷ [])
        → transport_ended r ≡ mid.transport → IfErr r (Ends asked took state (would mid.host (given.Came link m)) mid.size (given.Came link m) mid.host mid.disk)
        → IfErr r (EndsHearing asked took state gave would old.size old.host old.disk old.transport)
    heard_ends old mid link m (Ok x) same came is p = p
    heard_ends old mid link m (Err e) same came is p = record {
      link = link;
      message = m;
      came = subst (λ (t : T). Grows (gave old.transport) (gave t) (posted link (letter.spell m) ∷ [])) (sym is) came;
      ends = subst (λ (d : D). Ends asked took state (would old.host (given.Came link m)) old.size (given.Came link m) old.host d e) same.disk
          (subst (λ (n : ℕ). Ends asked took state (would old.host (given.Came link m)) n (given.Came link m) old.host mid.disk e) same.size
          (subst (λ (h : HostSeen M I A). Ends asked took state (would h (given.Came link m)) mid.size (given.Came link m) h mid.disk e) same.host p));
    }

    pub heard_leaves : (old mid : ProcessSeen D T M I A) (link : ℕ) (m : Message) (r : Result (ProcessSeen D T M I A × Heard) (Ended D T)) → SameInside old mid → Grows (gave old.transport) (gave mid.transport) (posted link (letter.spell m) ∷ [])
        → transport_ended r ≡ mid.transport → LeftOnly (state mid.disk) (state (disk_ended r)) (IsJournalOr asked took mid.host (given.Came link m))
        → LeavesHeard asked took old.host (gave old.transport) (gave (transport_ended r)) (state old.disk) (state (disk_ended r))
    heard_leaves old mid link m r same came is left =
        inr (
          link,
          m,
          subst (λ (t : T). Grows (gave old.transport) (gave t) (posted link (letter.spell m) ∷ [])) (sym is) came,
          subst (λ (d : D). LeftOnly (state d) (state (disk_ended r)) (IsJournalOr asked took old.host (given.Came link m))) same.disk
              (subst (λ (h : HostSeen M I A). LeftOnly (state mid.disk) (state (disk_ended r)) (IsJournalOr asked took h (given.Came link m))) same.host left),
        )

    -- ---- and then said

    becomes-cursors : (g : Handed) (b : Became) (old new : HostSeen M I A) → Becomes asked took g b old new → new.cursors ≡ old.cursors
    becomes-cursors g became.Taken old new p = p.cursors
    becomes-cursors g became.Early old new p = ap (λ (h : HostSeen M I A). h.cursors) p
    becomes-cursors g became.Again old new p = ap (λ (h : HostSeen M I A). h.cursors) p
    becomes-cursors g became.Unfit old new p = ap (λ (h : HostSeen M I A). h.cursors) p
    becomes-cursors g became.Unspelled old new p = ap (λ (h : HostSeen M I A). h.cursors) p
    becomes-cursors g became.Worn old new p = ap (λ (h : HostSeen M I A). h.cursors) p
    becomes-cursors g became.Full old new p = ap (λ (h : HostSeen M I A). h.cursors) p
    becomes-cursors g became.Memory old new p = ap (λ (h : HostSeen M I A). h.cursors) p

    -- what is heard moves no cursor
    pub heard_cursors : (h : Heard) (size : ℕ) (a b : Option (List Posted)) (old new : HostSeen M I A) → Hears asked took would h size a b old new → new.cursors ≡ old.cursors
    heard_cursors heard.Nothing size a b old new p = ap (λ (h : HostSeen M I A). h.cursors) p.1
    heard_cursors heard.Failed size a b old new p = ap (λ (h : HostSeen M I A). h.cursors) p.1
    heard_cursors (heard.Unread link wrong) size a b old new p = ap (λ (h : HostSeen M I A). h.cursors) p.same
    heard_cursors (heard.Lost link) size a b old new p = ap (λ (h : HostSeen M I A). h.cursors) p.same
    heard_cursors (heard.Message link b) size x y old new p = becomes-cursors (given.Came link p.message) b old new p.becomes

    pub heard_then : (h : Heard) (size : ℕ) (a : Option (List Posted)) (old : HostSeen M I A) (mid new : ProcessSeen D T M I A) → Hears asked took would h size a (gave mid.transport) old mid.host → Grows (gave mid.transport) (gave new.transport) [] → SameProcess mid new
        → HearsThen asked took would h size a (gave new.transport) old new.host
    heard_then h size a old mid new hears quiet same = record { host = mid.host; letters = gave mid.transport; hears = hears; quiet = quiet; node = same.node; slips = same.slips; wanted = same.wanted }

    pub leaves_then : (h : HostSeen M I A) (a : Option (List Posted)) (before : DiskState) (mid new : ProcessSeen D T M I A) → LeavesHeard asked took h a (gave mid.transport) before (state mid.disk) → Grows (gave mid.transport) (gave new.transport) [] → SameProcess mid new
        → LeavesHeard asked took h a (gave new.transport) before (state new.disk)
    leaves_then h a before mid new (inl left) quiet same = inl (subst (λ (d : D). LeftOnly before (state d) (IsJournalOf asked took h)) (sym same.disk) left)
    leaves_then h a before mid new (inr p) quiet same =
        inr (
          p.0,
          p.1,
          grows_quiet a (gave mid.transport) (gave new.transport) (posted p.0 (letter.spell p.1) ∷ []) p.2 quiet,
          subst (λ (d : D). LeftOnly before (state d) (IsJournalOr asked took h (given.Came p.0 p.1))) (sym same.disk) p.3,
        )
