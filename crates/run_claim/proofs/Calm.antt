-- Without a rise, fates and a cancel, only a node's own no lets a campaign fail.
use Rattle.std.specs.Prelude.{◌≡◌, ◌≢◌, ℕ, ◌+◌, ◌≤◌, Bool, true, false, ◌||◌, if◌then◌else◌, cond, nat_eq, IsTrue, List, [], ◌∷◌, count_by, Option, None}
use Rattle.std.specs.List.{AllByRecursion, list_any}
use Rattle.std.proofs.Common.{refl, inl, inr, sym, ap, ◌∙◌, subst, arith}
use Rattle.std.proofs.lemmas.Bool.{eqb-true}
use Rattle.std.proofs.lemmas.List.Sums.{sum_by-cons}
use Rattle.ucm_base.specs.Limits.{node_limit}
use Rattle.campaign_core.specs.declared.events.MasterEvent.{MasterEvent}
use Rattle.campaign_core.specs.declared.events.MasterEvent.TheVariants.{Start, Begin, PhaseTo, VoteOf, CancelAsked, Decide, EndedAt, Enter}
use Rattle.campaign_core.specs.declared.events.Vote.{Vote}
use Rattle.campaign_core.specs.declared.fold.Fold.{Fold}
use Rattle.campaign_core.specs.Campaign.{after_event, is_yes, nothing_yet}
use Rattle.run_script.specs.declared.lines.Point.{Point}
use Rattle.run_claim.specs.Script.{packages_of}
use Rattle.run_claim.specs.Ended.{Series, OfVote}
use Rattle.run_claim.specs.Evidence.{votes_on, InVotes, is_of_node}
use Rattle.run_claim.specs.FailedAttempts.{IsBounded, OneSeries, HasSums, VoteHasSeries, series_of}
use Rattle.run_claim.specs.Cancelled.{is_cancelled_from, has_asked}
use Rattle.run_claim.specs.Law.{BlameFollows, is_restart}
use Rattle.run_claim.proofs.Complete.{no-series}
use Rattle.run_claim.proofs.Blame.{HasNo, voted-no}

-- where no point is given, no cancel is asked for
not-asked : (f : Fold) (es : List MasterEvent) → is_cancelled_from false None f es ≡ true → has_asked es ≡ false
not-asked f [] h = refl
not-asked f (CancelAsked ∷ es) h = absurd (cc h)
not-asked f (Start x ∷ es) h = not-asked (after_event f (Start x)) es h
not-asked f (Begin k named ∷ es) h = not-asked (after_event f (Begin k named)) es h
not-asked f (PhaseTo p ∷ es) h = not-asked (after_event f (PhaseTo p)) es h
not-asked f (VoteOf n v ∷ es) h = not-asked (after_event f (VoteOf n v)) es h
not-asked f (Decide d ∷ es) h = not-asked (after_event f (Decide d)) es h
not-asked f (EndedAt n o ∷ es) h = not-asked (after_event f (EndedAt n o)) es h
not-asked f (Enter r ∷ es) h = not-asked (after_event f (Enter r)) es h

-- none is counted where none is there
none-counted : {A : Type 0} (p : A → Bool) (xs : List A) → count_by p xs ≤ 0 → list_any p xs ≡ false
none-counted p [] h = refl
none-counted {A} p (x ∷ xs) h = go (p x) refl (none-counted p xs)
  where
    s : count_by p (x ∷ xs) ≡ cond (p x) 1 0 + count_by p xs
    s = sum_by-cons (λ (y : A). cond (p y) 1 0) x xs

    go : (b : Bool) → p x ≡ b → (count_by p xs ≤ 0 → list_any p xs ≡ false) → (p x || list_any p xs) ≡ false
    go true e rec =
        absurd (let t : count_by p (x ∷ xs) ≡ 1 + count_by p xs = s ∙ ap (λ (b : Bool). cond b 1 0 + count_by p xs) e in
        omega (arith, h, t))
    go false e rec =
        ap (λ (b : Bool). b || list_any p xs) e
        ∙ rec (let t : count_by p (x ∷ xs) ≡ 0 + count_by p xs = s ∙ ap (λ (b : Bool). cond b 1 0 + count_by p xs) e in
        omega (arith, h, t))

-- a vote of a node has its series
vote-series : (series : List Series) (n : ℕ) (v : Vote) (es : List MasterEvent)
    → AllByRecursion (VoteHasSeries series) es → InVotes v (votes_on n es) → VoteHasSeries series (VoteOf n v)
vote-series series n v [] h i = absurd i
vote-series series n v (VoteOf m w ∷ es) h i = go (nat_eq m n) refl i (vote-series series n v es h.1)
  where
    go : (b : Bool) → nat_eq m n ≡ b → InVotes v (if b then w ∷ votes_on n es else votes_on n es)
        → (InVotes v (votes_on n es) → VoteHasSeries series (VoteOf n v)) → VoteHasSeries series (VoteOf n v)
    go true e (inl same) rec =
        subst (λ (i : ℕ). VoteHasSeries series (VoteOf i v)) (eqb-true m n e)
        (subst (λ (w : Vote). VoteHasSeries series (VoteOf m w)) (sym same) h.0)
    go true e (inr j) rec = rec j
    go false e j rec = rec j
vote-series series n v (_ ∷ es) h i = vote-series series n v es h.1 i

pub blame-follows : BlameFollows
blame-follows s counted e fits there cancel quiet fates none r result failed = go h.vote h.is_no h.there
  where
    asked : has_asked e.list ≡ false
    asked =
        not-asked nothing_yet e.list
        (subst (λ (p : Option Point). is_cancelled_from false p nothing_yet e.list ≡ true) none cancel.asked)

    calm : IsBounded (count_by is_restart e.list) (counted 0) → list_any is_restart e.list ≡ false
    calm (inl top) = absurd (let b = (quiet 0 (omega arith)).below in omega (arith, top, b))
    calm (inr low) =
        none-counted is_restart e.list (let same = (quiet 0 (omega arith)).same in omega (arith, low, same))

    restarts : list_any is_restart e.list ≡ false
    restarts = calm fits.restarts

    h : HasNo s e.list
    h = voted-no s e.list 0 r fits.legal fits.begins asked restarts result failed

    reached : (losses faults : ℕ) → InVotes (Vote.Unreached losses faults) (votes_on h.node e.list) → ⊥
    reached losses faults i =
        of (series_of OfVote h.node e.series) refl
        (vote-series e.series h.node (Vote.Unreached losses faults) e.list there.votes i)
      where
        of : (xs : List Series) → series_of OfVote h.node e.series ≡ xs → OneSeries xs (λ x. HasSums x losses faults)
            → ⊥
        of [] is o = o
        of (x ∷ []) is o = no-series s counted e there quiet fates OfVote h.node x is
        of (x ∷ y ∷ xs) is o = o

    go : (v : Vote) → is_yes v ≡ false → InVotes v (votes_on h.node e.list)
        → (n : ℕ) × (1 ≤ n) × (n ≤ node_limit) × (packages_of s n ≢ []) × (v : Vote) × InVotes v (votes_on n e.list)
        × IsTrue (is_of_node v)
    go Vote.Yes f i = absurd (cc f)
    go (Vote.Refused at why) f i = (h.node, h.low, h.high, h.named, Vote.Refused at why, i, refl)
    go Vote.RolledBack f i = (h.node, h.low, h.high, h.named, Vote.RolledBack, i, refl)
    go (Vote.Unreached losses faults) f i = absurd (reached losses faults i)
