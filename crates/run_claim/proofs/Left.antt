-- What a campaign leaves on a named node follows from what a run promises of that node's history and of the list.
use Rattle.std.specs.Prelude.{◌≡◌, ◌≢◌, ℕ, ◌≤◌, true, not, List, [], ◌∷◌, ◌++◌, length, map, take, drop, Option, Some, None}
use Rattle.std.specs.List.{AllByRecursion, list_all, list_any}
use Rattle.std.proofs.Common.{refl, inl, inr, sym, ap, ◌∙◌, subst, arith, length-take}
use Rattle.std.proofs.lemmas.List.{take-append-drop, length-map}
use Rattle.pm_types.specs.declared.calls.Call.{Call}
use Rattle.pm_types.specs.declared.history.Entry.{Entry}
use Rattle.pm_types.specs.declared.status.Status.TheVariants.{Activated}
use Rattle.pm_types.specs.NodeState.{NodeState}
use Rattle.pm_types.specs.Histories.{Reading, IsLegal, state_after, formatted}
use Rattle.campaign_core.specs.declared.events.CampaignResult.{CampaignResult}
use Rattle.campaign_core.specs.declared.events.CampaignResult.TheVariants.{Successful, Failed, Cancelled}
use Rattle.campaign_core.specs.declared.events.MasterEvent.{MasterEvent}
use Rattle.campaign_core.specs.declared.events.Vote.{Vote}
use Rattle.node_laws.specs.Fit.{IsReading, IsInstalled, KeepsFit}
use Rattle.node_laws.proofs.Kept.{keeps-fit}
use Rattle.world.specs.Law.{parts_in}
use Rattle.world.specs.RoundCalls.{round_calls}
use Rattle.world.specs.Rounds.{Over}
use Rattle.world.specs.Spans.{IsNew, spans, spans_from}
use Rattle.world.proofs.FitLaws.{KeepsNode, FitState, fit}
use Rattle.world.proofs.Instance.{mine_in}
use Rattle.world.proofs.EarlyFacts.{Activates}
use Rattle.run_claim.specs.Script.{Script, packages_of, installed_on}
use Rattle.run_claim.specs.Masters.{made_by, IsOfRoundsIn, epoch_of_begin, goes_back, has_commit, has_end}
use Rattle.sub_core.specs.Made.{Made, ids_given, IsOfRounds, is_end_call, ends_at_rest}
use Rattle.run_claim.specs.Evidence.{ShowsAfterRounds, VoteIsShown, VotesAreShown, votes_on, InVotes}
use Rattle.run_claim.specs.FailedAttempts.{Counted}
use Rattle.run_claim.specs.Left.{IsLeftSo, result_of}
use Rattle.run_claim.specs.Law.{NodeIsLegal, MasterFits, ListFits, opening_of}
use Rattle.run_claim.proofs.OldNodes.{keeps_node}
use Rattle.run_claim.proofs.Lists.{succeeded}
use Rattle.run_claim.proofs.Rounds.{InRounds, after-rounds}
use Rattle.run_claim.proofs.Committed.{IsWaiting, IsOn, all-on}
use Rattle.run_claim.proofs.Rested.{rest-none}
use Rattle.node_laws.proofs.GoingOn.{goes-on}
use Rattle.run_claim.proofs.Successful.{spans-split, made-split, rounds-many, within-later, none-any, both-hold}
use Rattle.run_claim.proofs.Aborted.{rest-append, left-old}

pub each-in : (P : Vote → Type 0) (v : Vote) (ws : List Vote) → AllByRecursion P ws → InVotes v ws → P v
each-in P v [] h i = absurd i
each-in P v (w ∷ ws) h (inl e) = subst P (sym e) h.0
each-in P v (w ∷ ws) h (inr i) = each-in P v ws h.1 i

module _ (read : Reading) (reading : IsReading read) (s : Script) (counted : ℕ → Counted) (n : ℕ)
    (list : List MasterEvent) (history : List Entry) (some : packages_of s n ≢ []) where
  -- no more calls of the rounds stand first than the evidence has
  few : (epoch : ℕ) (rounds made : List Made) → IsOfRounds s.campaign epoch 1 (packages_of s n) rounds
      → map (λ m. m.call) made ≡ round_calls s.campaign (ids_given made) (packages_of s n) → length rounds ≤ length made
  few epoch rounds made r calls =
      let a = ap (λ (l : List Call). length l) r.calls in
      let b = ap (λ (l : List Call). length l) calls in
      let c = rounds-many s.campaign (ids_given rounds) (ids_given made) (packages_of s n) in
      let d : length (map (λ m. m.call) rounds) ≡ length rounds = length-map rounds (λ (m : Made). m.call) in
      let e : length (map (λ m. m.call) made) ≡ length made = length-map made (λ (m : Made). m.call) in
      let f = length-take (length rounds) (round_calls s.campaign (ids_given rounds) (packages_of s n)) in
      omega (arith, a, b, c, d, e, f)

  abbrev opening : NodeState
  opening = opening_of s n

  abbrev ps : List (List ℕ)
  ps = packages_of s n

  module _ (installed : IsInstalled (installed_on s n)) (node : NodeIsLegal read s n history)
      (master : MasterFits read s n list history) where
    -- the node as it was formatted
    abbrev start : FitState read
    start =
        record {
          state = formatted (installed_on s n);
          fit =
              (let f : KeepsFit read = keeps-fit read reading in f.formatted (installed_on s n) installed);
        }

    rests : has_end n list ≡ true → ends_at_rest (made_by 0 history) ≡ true
    rests ended =
        subst (λ (ms : List Made). ends_at_rest ms ≡ true) (sym master.order.split)
        (rest-append master.order.rounds master.order.ends (master.order.rest ended))

    -- from the evidence of the Yes on
    new-from : has_commit list ≡ true → has_end n list ≡ true → (epoch : ℕ)
        → ShowsAfterRounds read (opening_of s n) s.campaign epoch (packages_of s n) Activated history
        → IsOfRounds s.campaign epoch 1 (packages_of s n) master.order.rounds
        → IsNew read s.campaign (parts_in read (packages_of s n)) (opening_of s n) history
    new-from commit ended epoch y first = conclude two.2
      where
        es : List Entry
        es = take y.place history

        fs : List Entry
        fs = drop y.place history

        whole : take y.place history ++ drop y.place history ≡ history
        whole = take-append-drop y.place history

        cut : IsLegal read (opening_of s n) (take y.place history)
            × IsLegal read (state_after read (opening_of s n) (take y.place history)) (drop y.place history)
        cut =
            ((goes-on read).legal (opening_of s n) (take y.place history) (drop y.place history)).0
            (subst (IsLegal read (opening_of s n)) (sym whole) node.legal)

        keeps : KeepsNode read []
        keeps = keeps_node read reading

        one : (x : FitState read) × (x.state ≡ state_after read (opening_of s n) (take y.place history))
            × InRounds read keeps s.campaign (packages_of s n) some x Over
            (spans read s.campaign (opening_of s n) (take y.place history))
        one =
            after-rounds read keeps s.campaign (packages_of s n) some start (take y.place history) refl cut.0 y.calls
            y.accepted

        at : Activates (fit read [] keeps) one.0 s.campaign (packages_of s n)
        at = one.2.at

        waiting : IsWaiting read keeps s.campaign (parts_in read (packages_of s n)) one.0
            (spans read s.campaign (opening_of s n) (take y.place history))
        waiting = record {
          waits =
              record {
                mine = at.mine;
                status = inl (ap (λ (z : NodeState). z.status) one.1 ∙ y.status);
                planned =
                    at.planned;
              };
          is_open = one.2.open_too at.mine;
          none = one.2.none;
        }

        parted : made_by 0 history ≡ made_by 0 (take y.place history) ++ made_by 0 (drop y.place history)
        parted = ap (made_by 0) (sym whole) ∙ made-split (take y.place history) (drop y.place history)

        ends : list_all (λ m. is_end_call m.call) (made_by 0 (drop y.place history)) ≡ true
        ends =
            within-later (λ m. is_end_call m.call) (made_by 0 (take y.place history)) (made_by 0 (drop y.place history))
            master.order.rounds master.order.ends (sym parted ∙ master.order.split)
            (few epoch master.order.rounds (made_by 0 (take y.place history)) first y.calls) master.order.calls

        backs : list_all (λ m. not (goes_back m.call)) (made_by 0 (drop y.place history)) ≡ true
        backs =
            none-any (λ m. goes_back m.call) (made_by 0 (take y.place history)) (made_by 0 (drop y.place history))
            (subst (λ (ms : List Made). not (list_any (λ m. goes_back m.call) ms) ≡ true) parted
            (master.decision.back commit))

        two : (x : FitState read)
            × (x.state ≡ state_after read (state_after read (opening_of s n) (take y.place history))
            (drop y.place history)) × IsOn read keeps s.campaign (parts_in read (packages_of s n)) x
            (spans_from read s.campaign (state_after read (opening_of s n) (take y.place history))
            (drop y.place history) (spans read s.campaign (opening_of s n) (take y.place history)))
        two =
            all-on read keeps s.campaign (parts_in read (packages_of s n)) (drop y.place history)
            (state_after read (opening_of s n) (take y.place history)) one.0 _ one.1 cut.1
            (both-hold (made_by 0 (drop y.place history)) ends backs) (inl waiting)

        final : state_after read (opening_of s n) history ≡ two.0.state
        final =
            ap (state_after read (opening_of s n)) (sym whole)
            ∙ ((goes-on read).state (opening_of s n) (take y.place history) (drop y.place history) ∙ sym two.1)

        none : mine_in (state_after read (opening_of s n) history) ≡ None
        none = rest-none read keeps start history (λ y e. cc e) node.legal (rests ended)

        conclude : IsOn read keeps s.campaign (parts_in read (packages_of s n)) two.0
            (spans_from read s.campaign (state_after read (opening_of s n) (take y.place history))
            (drop y.place history) (spans read s.campaign (opening_of s n) (take y.place history)))
            → IsNew read s.campaign (parts_in read (packages_of s n)) (opening_of s n) history
        conclude (inl w) =
            absurd (let mine = w.waits.mine in
            let z : mine_in two.0.state ≡ None = subst (λ (t : NodeState). mine_in t ≡ None) final none in cc (z, mine))
        conclude (inr e) = record {
          span = e.span;
          only =
              ap (spans read s.campaign (opening_of s n)) (sym whole)
              ∙ (spans-split read s.campaign (opening_of s n) (take y.place history) (drop y.place history) _ ∙ e.only);
          outcome = e.outcome;
          runs = e.runs;
        }

    is-new : has_commit list ≡ true → has_end n list ≡ true → InVotes Vote.Yes (votes_on n list)
        → IsNew read s.campaign (parts_in read (packages_of s n)) (opening_of s n) history
    is-new commit ended voted = go (epoch_of_begin 0 list) master.votes master.order.first
      where
        go : (o : Option ℕ) → VotesAreShown o read (opening_of s n) s.campaign (packages_of s n) history
            (votes_on n list) → IsOfRoundsIn o s.campaign (packages_of s n) master.order.rounds
            → IsNew read s.campaign (parts_in read (packages_of s n)) (opening_of s n) history
        go None votes first = absurd (subst (InVotes Vote.Yes) votes voted)
        go (Some epoch) votes first =
            new-from commit ended epoch
            (each-in (VoteIsShown read (opening_of s n) s.campaign epoch (packages_of s n) history) Vote.Yes
            (votes_on n list) votes voted) first

    -- a named node is left as the result says
    pub is-left : ListFits s counted list → 1 ≤ n → n ≤ 8
        → IsLeftSo read (result_of list) s.campaign (packages_of s n) (opening_of s n) history
    is-left fits low high = go (result_of list) refl
      where
        go : (r : Option CampaignResult) → result_of list ≡ r
            → IsLeftSo read r s.campaign (packages_of s n) (opening_of s n) history
        go None e = tt
        go (Some Successful) e = let h = succeeded s list 0 fits.legal fits.begins e in let m = h.1 n low high some in
            is-new h.0 m.0 m.1
        go (Some Failed) e =
            left-old read reading s counted n list history installed node master fits low high some Failed e (λ f. cc f)
        go (Some Cancelled) e =
            left-old read reading s counted n list history installed node master fits low high some Cancelled e
            (λ f. cc f)
