-- How a list goes on standing for the log.
use Rattle.std.proofs.Common.{◌≡◌, inl, ℕ, ◌+◌, ◌<◌, ◌^◌, arith, length, length-append, List, [], ◌∷◌, ◌++◌, refl, sym, ◌∙◌, ap, subst, Option, Some, None}
use Rattle.std.specs.Prelude.{IfSome, IsSome}
use mathlib.Core.List.{IsPrefix}
use Rattle.fault_count.specs.Faults.{one_more}
use Rattle.turn_gate.specs.Parts.{at_most_last}
use Rattle.turn_gate.proofs.Prefixes.{prefix_same, prefix_trans}
use Rattle.disk_core.specs.Moments.{LeavesOnly}
use Rattle.disk_core.proofs.Moments.{joined, started, weaker}
use Rattle.event_log.specs.declared.log.Log.{Log}
use Rattle.campaign_core.specs.declared.events.MasterEvent.{MasterEvent}
use Rattle.campaign_core.specs.declared.events.MasterEvent.TheVariants.{CancelAsked}
use Rattle.campaign_core.specs.declared.fold.Fold.{Fold}
use Rattle.campaign_core.specs.Campaign.{after_event, IsLegalFrom, refusal_of}
use Rattle.campaign_core.proofs.Appended.{fold_append, legal_more}
use Rattle.decision_log.specs.Known.{IsBeforeOrAfter, IsKnown}
use Rattle.decision_log.specs.declared.list.MasterLog.{MasterLog}
use Rattle.decision_log.proofs.Known.{doubt_is, now_is}
use Rattle.master_gate.specs.declared.opening.Opening.{Opening}
use Rattle.master_gate.specs.Stands.{IsImageOf, Knows, StandsFor, WasLeft, fold_after, opening}

-- the event that is pending
pub some_event : (pending : Option MasterEvent) → IsSome pending → (e : MasterEvent) × (pending ≡ Some e)
some_event (Some e) some = (e, refl)
some_event None some = absurd (cc some)

pub of_some : (P : MasterEvent → Type 0) (pending : Option MasterEvent) (e : MasterEvent) → pending ≡ Some e
    → IfSome pending P → P e
of_some P pending e is p = subst (λ (o : Option MasterEvent). IfSome o P) is p

-- each image of now is one of the list with what is pending or without
pub image_of : (log : Log) (fold : Fold) (pending : Option MasterEvent) (seen : List ℕ) (images : List ℕ → Type 0)
    (image : List ℕ) → IsKnown log fold pending seen images → images image → IsImageOf fold pending image
image_of log fold None seen images image known now = now_is log fold seen images image known now
image_of log fold (Some e) seen images image known now = doubt_is log fold e seen images image known now

-- what is pending is allowed
pub may_pend : (log : Log) (fold : Fold) (pending : Option MasterEvent) (e : MasterEvent) (seen : List ℕ)
    (images : List ℕ → Type 0) → pending ≡ Some e → IsKnown log fold pending seen images → refusal_of fold e ≡ None
may_pend log fold pending e seen images is known =
    (subst (λ (o : Option MasterEvent). IsKnown log fold o seen images) is known).stand.0

-- as the gate is made
left_first : (fold : Fold) (pending : Option MasterEvent) (image : List ℕ) → IsImageOf fold pending image
    → WasLeft fold [] image
left_first fold None image is =
    record { beginning = []; begins = prefix_same [] [] refl; event = CancelAsked; stands = inl is }
left_first fold (Some e) image is = record { beginning = []; begins = prefix_same [] [] refl; event = e; stands = is }

module _ {D : Type 0} (moment : D → ℕ) (left_since : D → ℕ → List ℕ → Type 0) (seen : D → List ℕ)
    (images : D → List ℕ → Type 0) where
  abbrev Stands : Opening D → MasterLog D → List MasterEvent → Type 0
  Stands o log events = StandsFor moment left_since seen images o log events

  abbrev Run : MasterLog D → MasterLog D → MasterEvent → Type 0
  Run a b e = LeavesOnly moment left_since a.disk b.disk (IsBeforeOrAfter a.campaign.fold e)

  pub stands_first : (log : MasterLog D) (events : List MasterEvent) → events ≡ [] → log.count < 2 ^ 64
      → ((image : List ℕ) → left_since log.disk (moment log.disk) image → images log.disk image)
      → Knows seen images log → Stands (opening log) log events
  stands_first log events none fits only_now known =
      subst (λ (l : List MasterEvent). Stands (opening log) log l) (sym none) (record {
        fold_is = refl;
        legal = tt;
        count_is = omega (arith, fits);
        known = known;
        moments =
            started moment left_since log.disk (WasLeft log.campaign.fold [])
            (λ image left. left_first log.campaign.fold log.pending image
            (image_of log.log log.campaign.fold log.pending (seen log.disk) (images log.disk) image known
            (only_now image left)));
      })

  module _ (o : Opening D) (a b : MasterLog D) (events later : List MasterEvent) (stands : Stands o a events) where
    -- a call's moments go on from those since the making
    moments_on : (e : MasterEvent) → IsPrefix events later → Run a b e
        → LeavesOnly moment left_since o.disk b.disk (WasLeft o.fold later)
    moments_on e begins run =
        joined moment left_since o.disk a.disk b.disk (WasLeft o.fold later) (IsBeforeOrAfter a.campaign.fold e)
        (weaker moment left_since o.disk a.disk (WasLeft o.fold events) (WasLeft o.fold later)
        (λ image was. record {
          beginning = was.beginning;
          begins = prefix_trans was.beginning events later was.begins begins;
          event = was.event;
          stands = was.stands;
        }) stands.moments) run
        (λ image p. record {
          beginning = events;
          begins = begins;
          event = e;
          stands = subst (λ (f : Fold). IsBeforeOrAfter f e image) stands.fold_is p;
        })

    -- the list stays, whatever event the call was about
    pub stays : (e : MasterEvent) → later ≡ events → b.campaign.fold ≡ a.campaign.fold → b.count ≡ a.count
        → Knows seen images b → Run a b e → Stands o b later
    stays e same fold count known run = record {
      fold_is = fold ∙ stands.fold_is ∙ ap (fold_after o) (sym same);
      legal = subst (IsLegalFrom o.fold) (sym same) stands.legal;
      count_is = count ∙ stands.count_is ∙ ap (λ (l : List MasterEvent). at_most_last (o.count + length l)) (sym same);
      known = known;
      moments = moments_on e (prefix_same events later (sym same)) run;
    }

    -- and where an event is pending, a call about this one
    pub stays_closed : IsSome a.pending → later ≡ events → b.campaign.fold ≡ a.campaign.fold → b.count ≡ a.count
        → Knows seen images b → IfSome a.pending (Run a b) → Stands o b later
    stays_closed some same fold count known run =
        let e = some_event a.pending some in
        stays e.0 same fold count known (of_some (Run a b) a.pending e.0 e.1 run)

    -- the event is recorded
    pub grows : (e : MasterEvent) → later ≡ events ++ e ∷ [] → refusal_of a.campaign.fold e ≡ None
        → b.campaign.fold ≡ after_event a.campaign.fold e → b.count ≡ one_more a.count → Knows seen images b
        → Run a b e → Stands o b later
    grows e is may fold count known run = record {
      fold_is =
          fold ∙ ap (λ (f : Fold). after_event f e) stands.fold_is
          ∙ sym (fold_append o.fold events (e ∷ [])) ∙ ap (fold_after o) (sym is);
      legal =
          subst (IsLegalFrom o.fold) (sym is) (legal_more o.fold events e stands.legal
          (ap (λ (f : Fold). refusal_of f e) (sym stands.fold_is) ∙ may));
      count_is = omega (arith, count, stands.count_is, ap length is, length-append events (e ∷ []));
      known = known;
      moments = moments_on e (e ∷ [], sym is) run;
    }

    -- what was pending stands
    pub stood : (e : MasterEvent) → a.pending ≡ Some e → later ≡ events ++ e ∷ []
        → b.campaign.fold ≡ after_event a.campaign.fold e → b.count ≡ one_more a.count → Knows seen images b
        → IfSome a.pending (Run a b) → Stands o b later
    stood e pending is fold count known run =
        grows e is (may_pend a.log a.campaign.fold a.pending e (seen a.disk) (images a.disk) pending stands.known) fold
        count known (of_some (Run a b) a.pending e pending run)

    -- the log is the same one
    pub same : b ≡ a → later ≡ events → Stands o b later
    same log is =
        subst (λ (l : MasterLog D). Stands o l later) (sym log)
        (subst (λ (l : List MasterEvent). Stands o a l) (sym is) stands)
