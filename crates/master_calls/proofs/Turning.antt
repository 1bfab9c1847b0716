-- The calls stay in turn from attempt to attempt.
use Rattle.std.specs.Prelude.{◌≡◌, ◌⊎◌, ℕ, ◌+◌, ◌≤◌, Bool, true, false, if◌then◌else◌, is_some, List, [], ◌∷◌, ◌++◌, map, length, Option, Some, None}
use Rattle.std.specs.List.{AllByRecursion}
use Rattle.std.specs.Ordering.{is_eq}
use Rattle.std.proofs.Common.{refl, sym, ap, subst, ◌∙◌, inl, inr, arith}
use Rattle.std.proofs.lemmas.List.{append-nil}
use Rattle.ucm_base.specs.declared.ids.CallNo.{CallNo}
use Rattle.pm_types.specs.Steps.{call_no_cmp}
use Rattle.pm_types.specs.declared.replies.Reply.{Reply}
use Rattle.pm_types.specs.declared.status.Status.{Status}
use Rattle.world.specs.Messages.{Message, Told, Answered, Showed, is_told, told_reply}
use Rattle.world.specs.Attempts.{with_sent}
use Rattle.sub_core.specs.declared.answers.Round.{Round}
use Rattle.sub_core.specs.Made.{Made, made_early, made_of, numbers_from, sent_early}
use Rattle.sub_core.specs.Sends.{AreNumbered}
use Rattle.client_calls.specs.Calls.{AreBelow, IsAnswered, IsBelow, Known, Posted, entry_of}
use Rattle.client_calls.specs.Arrivals.{IsOf}
use Rattle.client_calls.proofs.Arriving.{all-of-more, below-self, last-of, of-more}
use Rattle.master_calls.specs.Turn.{AreFirst, HasNumber, InTurn, IsDoubtIn, IsLater, Rounds, early_in, late_in, pending_of, post_of, posts_in, rounds_of}
use Rattle.master_calls.proofs.Sent.{AllDecided, count-of, early-of, late-of, numbered-later, numbered-rest, numbers-below}
use Rattle.master_calls.proofs.Sending.{IsEndRound, MaySendNow, Again, First, Next}

pub same-eq : (a : CallNo) → is_eq (call_no_cmp a a) ≡ true
same-eq a = grind arith

pub other-eq : (a b : CallNo) → IsBelow b a → is_eq (call_no_cmp a b) ≡ false
other-eq a b below = grind (arith, below)

-- what comes next is the newest, and behind it is what was sent, but for it
pub data Heads (round : Round) (m : Message) (told : List Told) (sent : List Message) : Type 0 where
  Repeats : (older : List Message) → sent ≡ m ∷ older → with_sent m sent ≡ sent → is_told told m.at ≡ false
      → Heads round m told sent
  Adds : with_sent m sent ≡ m ∷ sent
      → ((n : Message) (older : List Message) → sent ≡ n ∷ older
      → (is_told told n.at ≡ true) ⊎ ((n.decided ≡ false) × IsEndRound round))
      → Heads round m told sent

pub heads : (round : Round) (m : Message) (told : List Told) (sent : List Message) → MaySendNow round m told sent
    → Heads round m told sent
heads round m told sent (Again older is pending) = Repeats older is (go sent is) pending
  where
    go : (sent : List Message) → sent ≡ m ∷ older → with_sent m sent ≡ sent
    go [] e = absurd (cc e)
    go (n ∷ ns) e =
        let one : n ≡ m = cc e in
        ap (λ b. if b then n ∷ ns else m ∷ n ∷ ns)
        (subst (λ (x : Message). is_eq (call_no_cmp x.at m.at) ≡ true) (sym one) (same-eq m.at))
heads round m told sent (First due is) = Adds (subst (λ s. with_sent m s ≡ m ∷ s) (sym is) refl)
    (λ n older e. absurd (cc (sym is ∙ e)))
heads round m told sent (Next due newest older is added free) = Adds added (λ n rest e. go n (cc (sym is ∙ e)))
  where
    go : (n : Message) → newest ≡ n → (is_told told n.at ≡ true) ⊎ ((n.decided ≡ false) × IsEndRound round)
    go n one = subst (λ (x : Message). (is_told told x.at ≡ true) ⊎ ((x.decided ≡ false) × IsEndRound round)) one free

-- a status that is shown tells nothing of the rounds
pending-showed : (status : Status) (told : List Told) (ps : List Posted)
    → pending_of (Showed status ∷ told) ps ≡ pending_of told ps
pending-showed status told [] = refl
pending-showed status told (p ∷ ps) = refl

pub rounds-showed : (status : Status) (told : List Told) (sent : List Message)
    → rounds_of (Showed status ∷ told) sent ≡ rounds_of told sent
rounds-showed status told sent =
    ap (λ o. record { answered = made_early told; pending = o }) (pending-showed status told (early_in sent))

-- what holds of what was told and sent
pub record Facts (epoch first : ℕ) (told : List Told) (sent : List Message) : Type 0 where
  pub numbers : map (λ m. m.at) (made_early told) ≡ numbers_from epoch first (length (made_early told))
  pub within : length (made_early told) ≤ sent_early sent
  pub numbered : AreNumbered epoch first sent
  pub late : List Message
  pub early : List Message
  pub split : sent ≡ late ++ early
  pub all_late : AllDecided true late
  pub all_early : AllDecided false early

module _ (epoch first : ℕ) (told : List Told) (sent : List Message) (facts : Facts epoch first told sent) where
  many-early : sent_early sent ≡ length facts.early
  many-early = ap sent_early facts.split ∙ count-of facts.late facts.early facts.all_late facts.all_early

  -- a number behind those of the rounds
  is-later : (m : Message) → (m.at.epoch ≡ epoch) × (first + length facts.early ≤ m.at.number)
      → IsLater (rounds_of told sent) (post_of m)
  is-later m high = record {
    answered = numbers-below epoch first (made_early told) m.at facts.numbers high.0 enough;
    pending = (λ q is. behind facts.early early-numbers high.1
        (subst (λ ps. pending_of told ps ≡ Some q)
        (ap early_in facts.split ∙ early-of facts.late facts.early facts.all_late facts.all_early) is));
  }
    where
      enough : first + length (made_early told) ≤ m.at.number
      enough = let within = subst (λ n. length (made_early told) ≤ n) many-early facts.within in
          omega (arith, high.1, within)

      early-numbers : AreNumbered epoch first facts.early
      early-numbers = numbered-rest epoch first facts.late facts.early
          (subst (AreNumbered epoch first) facts.split facts.numbered)

      behind : (early : List Message) → AreNumbered epoch first early → first + length early ≤ m.at.number
          → {q : Posted} → pending_of told (posts_in early) ≡ Some q → IsBelow q.at m.at
      behind [] numbers more e = absurd (cc e)
      behind (n ∷ ns) numbers more {q} e = go (is_told told n.at) e
        where
          go : (b : Bool) → (if b then None else Some (post_of n)) ≡ Some q → IsBelow q.at m.at
          go true e = absurd (cc e)
          go false e =
              let one : post_of n ≡ q = cc e in
              subst (λ (p : Posted). IsBelow p.at m.at) one
              (inr (ap (λ (a : CallNo). a.epoch) numbers.0 ∙ sym high.0, grind (arith, numbers.0, more)))

  pub later-are : AllByRecursion (IsLater (rounds_of told sent)) (late_in sent)
  later-are = subst (AllByRecursion (IsLater (rounds_of told sent)))
      (sym (ap late_in facts.split ∙ late-of facts.late facts.early facts.all_late facts.all_early))
      (go facts.late (numbered-later epoch first facts.late facts.early
      (subst (AreNumbered epoch first) facts.split facts.numbered)))
    where
      go : (late : List Message)
          → AllByRecursion (λ m. (m.at.epoch ≡ epoch) × (first + length facts.early ≤ m.at.number)) late
          → AllByRecursion (IsLater (rounds_of told sent)) (posts_in late)
      go [] all = tt
      go (m ∷ ms) all = (is-later m all.0, go ms all.1)

-- one more later message
pub more-later : (rounds : Rounds) (p : Posted) (later : List Posted) (known : Known) → InTurn rounds later known
    → InTurn rounds (p ∷ later) known
more-later rounds p later known h = record {
  first = h.first;
  ends = h.ends;
  split = h.split;
  of_rounds = h.of_rounds;
  of_later = all-of-more (p ∷ []) later h.ends h.of_later;
  doubt = go known.doubt h.doubt;
}
  where
    go : (doubt : Option Made) → IsDoubtIn rounds later h.first h.ends doubt
        → IsDoubtIn rounds (p ∷ later) h.first h.ends doubt
    go None d = tt
    go (Some d) (inl of) = inl (of-more (p ∷ []) later d of)
    go (Some d) (inr is) = inr is

-- a message of the rounds is sent
pub begins-one : (answered : List Made) (p : Posted) (later : List Posted) (known : Known)
    → InTurn (record { answered = answered; pending = None }) later known
    → InTurn (record { answered = answered; pending = Some p }) later known
begins-one answered p later known h = record {
  first = h.first;
  ends = h.ends;
  split = h.split;
  of_rounds = one h.of_rounds;
  of_later = h.of_later;
  doubt = go known.doubt h.doubt;
}
  where
    one : AreFirst (record { answered = answered; pending = None }) h.first
        → AreFirst (record { answered = answered; pending = Some p }) h.first
    one (inl is) = inl is
    one (inr (q, reply, none, is)) = absurd (cc none)

    go : (doubt : Option Made) → IsDoubtIn (record { answered = answered; pending = None }) later h.first h.ends doubt
        → IsDoubtIn (record { answered = answered; pending = Some p }) later h.first h.ends doubt
    go None d = tt
    go (Some d) (inl of) = inl of
    go (Some d) (inr (q, reply, none, is, first, ends)) = absurd (cc none)

pub last-same : (xs ys : List Made) (x y : Made) → xs ++ x ∷ [] ≡ ys ++ y ∷ [] → (xs ≡ ys) × (x ≡ y)
last-same [] [] x y e = (refl, cc e)
last-same [] (b ∷ bs) x y e = absurd (none-there bs (cc e))
  where
    none-there : (bs : List Made) → [] ≡ bs ++ y ∷ [] → ⊥
    none-there [] e = cc e
    none-there (c ∷ cs) e = cc e
last-same (a ∷ as') [] x y e = absurd (none-there as' (cc e))
  where
    none-there : (bs : List Made) → bs ++ x ∷ [] ≡ [] → ⊥
    none-there [] e = cc e
    none-there (c ∷ cs) e = cc e
last-same (a ∷ as') (b ∷ bs) x y e =
    let one : a ≡ b = cc e in
    let rest = last-same as' bs x y (cc e) in
    (rw (one, rest.0) refl, rest.1)

none-of : (ms : List Made) → AllByRecursion (IsOf []) ms → ms ≡ []
none-of [] all = refl
none-of (m ∷ ms) all = absurd all.0.among

-- a message of the rounds is answered
pub answers-one : (answered : List Made) (m : Message) (reply : Reply) (known : Known) → AreBelow answered m.at
    → InTurn (record { answered = answered; pending = Some (post_of m) }) [] known → IsAnswered m.at reply known
    → InTurn (record { answered = answered ++ made_of m reply ∷ []; pending = None }) [] known
answers-one answered m reply known below h is = record {
  first = answered ++ made_of m reply ∷ [];
  ends = [];
  split = go h.of_rounds;
  of_rounds = inl refl;
  of_later = tt;
  doubt = subst (IsDoubtIn (record { answered = answered ++ made_of m reply ∷ []; pending = None }) []
      (answered ++ made_of m reply ∷ []) []) (sym is.settled) tt;
}
  where
    mine : known.mine ≡ h.first
    mine = h.split ∙ (ap (λ ms. h.first ++ ms) (none-of h.ends h.of_later) ∙ append-nil h.first)

    go : AreFirst (record { answered = answered; pending = Some (post_of m) }) h.first
        → known.mine ≡ (answered ++ made_of m reply ∷ []) ++ []
    go (inl first) = absurd (below-self m.at (subst (λ a. IsBelow a m.at) is.number
        (last-of (λ x. IsBelow x.at m.at) is.older is.newest
        (subst (λ ms. AreBelow ms m.at) (sym (mine ∙ first) ∙ is.split) below))))
    go (inr (p, q, one, first)) =
        let same : post_of m ≡ p = cc one in
        let last = last-same answered is.older (entry_of p q) is.newest (sym (mine ∙ first) ∙ is.split) in
        let replied : q ≡ reply = ap (λ (x : Made). x.reply) last.1 ∙ is.answer in
        mine ∙ (first ∙ (rw (sym same, replied) refl ∙ sym (append-nil (answered ++ made_of m reply ∷ []))))

pub has-more : (at : CallNo) (ms : List Made) (m : Made) → HasNumber at ms → HasNumber at (ms ++ m ∷ [])
has-more at [] m h = absurd h
has-more at (n ∷ ns) m (inl is) = inl is
has-more at (n ∷ ns) m (inr h) = inr (has-more at ns m h)

pub has-last : (at : CallNo) (ms : List Made) (m : Made) → m.at ≡ at → HasNumber at (ms ++ m ∷ [])
has-last at [] m is = inl is
has-last at (n ∷ ns) m is = inr (has-last at ns m is)

-- an answer to a message of the end phase tells nothing of the rounds
pub pending-same : (m : Message) (reply : Reply) (told : List Told) (ps : List Posted)
    → AllByRecursion (λ p. IsBelow p.at m.at) ps
    → pending_of (Answered m reply ∷ told) ps ≡ pending_of told ps
pending-same m reply told [] below = refl
pending-same m reply told (p ∷ ps) below = ap (λ b. if is_some (if b then Some reply else told_reply told p.at) then
    None
    else Some p) (other-eq m.at p.at below.0)
