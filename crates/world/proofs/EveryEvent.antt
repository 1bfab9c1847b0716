-- What every event of a world keeps, and so the law of campaigns over every list of events,
-- from the laws of a node alone.
use Rattle.world.proofs.Names.{and_parts, ◌≡◌, ◌≢◌, ◌⊎◌, inl, inr, if◌then◌else◌, not, ◌+◌, ℕ, zero, suc, ◌≤◌, List, []}
use Rattle.world.proofs.Names.{◌∷◌, Option, Some, None, Bool, true, false, is_some, is_none, nat_eq, refl, sym, ◌∙◌, ap}
use Rattle.world.proofs.Names.{subst, arith, eqb-true, eqb_tells, flat_map, NodeId, Outcome, Activated, NodeSet, Vote}
use Rattle.world.proofs.Names.{Decision, Commit, CampaignResult, Successful, MasterEvent, Start, Begin, VoteOf, Decide}
use Rattle.world.proofs.Names.{EndedAt, Enter, Fold, Current, flag_of, vote_of, nothing_yet, all_ended, is_result_of}
use Rattle.world.proofs.Names.{all_below, unless, in_current, refusal_of, changed, changed_in, after_event, entered}
use Rattle.world.proofs.Names.{begun, Call, Reply, Reached, Stale, Again, Fresh, Status, Message, Answered, Showed}
use Rattle.world.proofs.Names.{IsIn, IsBelow, slice_get, answer_of, Packages, MaySend, campaign_of, decided_of}
use Rattle.world.proofs.Names.{next_number, EndEvidence, InCurrent, NamesOf, showed_after_activate}
use Rattle.world.proofs.Rules.{NodeRules, NodeLaws, reached, delivered, Delivered, Foreign, Unit_done, NodeWorld, World}
use Rattle.world.proofs.Rules.{state_of, Event, Deliver, ForeignCalls, Unit_comes, Send, Record, Restart, Evidence}
use Rattle.world.proofs.Rules.{Allowed, with_node, emptied, deliver_to, recorded, happens, formatted_world, Makes}
use Rattle.world.proofs.Rules.{opened_world, spans, IsOld, IsLeft, WorldLaw}
use Rattle.world.proofs.Invariant.{InPresent, KeptOld, KeptFold}
use Rattle.world.proofs.Records.{part-other, part-with, flagged-ended, SameAt, SameFold, some-inj, none-some, below-in}
use Rattle.world.proofs.Records.{forget, present-forth, event-same, event-begin, event-decide, event-ended, event-enter}
use Rattle.world.proofs.Events.{below-irrefl, event-deliver, event-foreign, event-unit, event-answered, event-showed}
use Rattle.world.proofs.Sends.{event-send}
use Rattle.world.proofs.Committed.{KeptCommitted, IsReadyToCommit, committed-deliver, committed-foreign, committed-unit}
use Rattle.world.proofs.Committed.{committed-send, committed-told, committed-same, committed-decide, committed-ended}
use Rattle.world.proofs.Committed.{committed-enter}
use Rattle.world.proofs.EarlyFacts.{KeptEarly, KeptLive}
use Rattle.world.proofs.EarlyEvents.{early-answered-event, early-begin, early-deliver, early-fold, early-foreign-event}
use Rattle.world.proofs.EarlyEvents.{early-no, early-send, early-showed-event, early-unit-event, live-deliver}
use Rattle.world.proofs.EarlyEvents.{live-ended, live-fold, live-foreign, live-send, live-told, live-unit, next-exec}
use Rattle.world.proofs.EarlyEvents.{ready-node}

nth-in : (ms : List Message) (k : ℕ) (m : Message) → slice_get ms k ≡ Some m → IsIn m ms
nth-in [] k m e = absurd (cc e)
nth-in (x ∷ xs) zero m e = let q : x ≡ m = cc e in inl (sym q)
nth-in (x ∷ xs) (suc k) m e = inr (nth-in xs k m e)

unless-true : (b : Bool) → unless b ≡ None → b ≡ true
unless-true b e = grind arith

-- what the tests of the records say
begins : (f : Fold) (k : ℕ) (named : NodeSet) → refusal_of f (Begin k named) ≡ None
    → (f.current ≡ None) × (all_below k f.earlier ≡ true)
begins f k named h = grind (arith, unless-true)

decides : (c : Current) (d : Decision) → in_current (Some c) (Decide d) ≡ None → c.decision ≡ None
decides c d h = grind (arith, unless-true)

ends : (c : Current) (n : NodeId) (o : Outcome) → in_current (Some c) (EndedAt n o) ≡ None → c.decision ≢ None
ends c n o h = grind (arith, unless-true)

enters : (c : Current) (r : CampaignResult) → in_current (Some c) (Enter r) ≡ None
    → (all_ended c ≡ true) × (is_result_of c.decision r ≡ true)
enters c r h = grind (arith, unless-true)

-- what a record changes in the current campaign, where it changes no part that a node sees
same-refl : (n : ℕ) (c d : Current) → d.campaign ≡ c.campaign → d.named ≡ c.named → d.ended ≡ c.ended
    → d.decision ≡ c.decision → SameAt n c d
same-refl n c d a b e g = grind arith

same-fold : (n : ℕ) (f : Fold) (epoch : ℕ) (e : MasterEvent) → f.epoch ≤ epoch
    → ((c : Current) → SameAt n c (changed c e))
    → SameFold n f (record { epoch = epoch; earlier = f.earlier; current = changed_in f.current e })
same-fold n f epoch e le same =
    record { epoch = le; earlier = refl; back = λ d h. back f.current d h; forth = λ c h. forth f.current c h }
  where
    back : (o : Option Current) (d : Current) → changed_in o e ≡ Some d → (c : Current) × (o ≡ Some c) × SameAt n c d
    back None d h = absurd (cc h)
    back (Some c) d h = (c, refl, subst (λ y. SameAt n c y) (some-inj (changed c e) d h) (same c))

    forth : (o : Option Current) (c : Current) → o ≡ Some c → (d : Current) × (changed_in o e ≡ Some d) × SameAt n c d
    forth None c h = absurd (cc h)
    forth (Some c') c h = (changed c' e, refl, subst (λ y. SameAt n y (changed c' e)) (some-inj c' c h) (same c'))

module _ (N : NodeRules) (laws : NodeLaws N) (packages : Packages) (numbers : List ℕ) where
  -- of the master's list: the current campaign names the nodes of its steps
  record ListKept (f : Fold) : Type 0 where
    fold : KeptFold f
    names : (c : Current) → f.current ≡ Some c → (n : ℕ) → 1 ≤ n → n ≤ 8 → packages c.campaign n ≢ []
        → flag_of c.named n ≡ true

  -- of one node
  record NodeKept (f : Fold) (n : ℕ) (x : NodeWorld N) : Type 0 where
    old : KeptOld N f n x
    committed : KeptCommitted N laws packages n f x
    live : KeptLive N f n x
    early : KeptEarly N packages f n x

  record WorldKept (w : World N) : Type 0 where
    list : ListKept w.fold
    each : (n : ℕ) → NodeKept w.fold n (w.node n)

  -- one node changes
  one-node : (w : World N) (n : ℕ) (x : NodeWorld N) → WorldKept w → NodeKept w.fold n x → WorldKept (with_node N w n x)
  one-node w n x kept new = grind arith

  -- a message arrives
  arrives : (f : Fold) (n : ℕ) (x : NodeWorld N) (m : Message) → IsIn m x.sent → KeptFold f → NodeKept f n x
      → NodeKept f n (record { moves = Delivered m ∷ x.moves; sent = x.sent; told = x.told })
  arrives f n x m sent fold h =
      let old = event-deliver N laws f n x m sent fold h.old in
      record {
        old = old;
        committed = committed-deliver N laws packages n f x m sent fold old h.committed;
        live = live-deliver N laws packages numbers n f x m sent h.old h.live;
        early = early-deliver N laws packages numbers n f x m sent h.old h.early;
      }

  -- the reply of a delivery is the one that the node keeps then
  reply-facts : (s : N.State) (m : Message) (r : Reply)
      → (reached N s m.at m.call ≡ Again r) ⊎ (reached N s m.at m.call ≡ Fresh r)
      → (m.at ≡ N.last (delivered N s m.at m.call)) × (N.kept (delivered N s m.at m.call) ≡ r)
  reply-facts s m r h = grind arith

  -- and the reply is told
  replied : (f : Fold) (n : ℕ) (x : NodeWorld N) (m : Message) (r : Reply) → IsIn m x.sent
      → (m.at ≡ N.last (state_of N x)) × (N.kept (state_of N x) ≡ r) → NodeKept f n x
      → NodeKept f n (record { moves = x.moves; sent = x.sent; told = Answered m r ∷ x.told })
  replied f n x m r sent is h =
      record {
        old =
            event-answered N laws f n x m r sent
            (λ exec. below-irrefl m.at (subst (λ a. IsBelow a m.at) (sym is.0) exec)) is.1 h.old;
        committed = committed-told N laws packages n f x (Answered m r ∷ x.told) h.committed;
        live = live-told N laws packages numbers n f x (Answered m r ∷ x.told) h.live;
        early = early-answered-event N laws packages numbers n f x m r sent is.0 is.1 h.live h.early;
      }

  answered : (f : Fold) (n : ℕ) (x : NodeWorld N) (m : Message) → IsIn m x.sent → (a : Reached)
      → ((r : Reply) → (a ≡ Again r) ⊎ (a ≡ Fresh r) → (m.at ≡ N.last (state_of N x)) × (N.kept (state_of N x) ≡ r))
      → NodeKept f n x → NodeKept f n (record { moves = x.moves; sent = x.sent; told = answer_of m a x.told })
  answered f n x m sent (Stale last) is h = h
  answered f n x m sent (Again r) is h = replied f n x m r sent (is r (inl refl)) h
  answered f n x m sent (Fresh r) is h = replied f n x m r sent (is r (inr refl)) h

  deliver : (f : Fold) (n : ℕ) (x : NodeWorld N) (o : Option Message) (told : Bool)
      → ((m : Message) → o ≡ Some m → IsIn m x.sent) → KeptFold f → NodeKept f n x
      → NodeKept f n (deliver_to N x o told)
  deliver f n x None told is fold h = h
  deliver f n x (Some m) false is fold h = arrives f n x m (is m refl) fold h
  deliver f n x (Some m) true is fold h =
      answered f n (record { moves = Delivered m ∷ x.moves; sent = x.sent; told = x.told }) m (is m refl)
      (reached N (state_of N x) m.at m.call) (reply-facts (state_of N x) m) (arrives f n x m (is m refl) fold h)

  foreign : (f : Fold) (n : ℕ) (x : NodeWorld N) (call : N.ForeignCall) → KeptFold f → NodeKept f n x
      → NodeKept f n (record { moves = Foreign call ∷ x.moves; sent = x.sent; told = x.told })
  foreign f n x call fold h =
      record {
        old = event-foreign N laws f n x call fold h.old;
        committed = committed-foreign N laws packages n f x call h.committed;
        live = live-foreign N laws packages numbers n f x call h.live;
        early = early-foreign-event N laws packages numbers n f x call h.early;
      }

  -- a unit, whose status is told or lost
  unit : (f : Fold) (n : ℕ) (x : NodeWorld N) (passed : Bool) → KeptFold f → NodeKept f n x
      → NodeKept f n (record { moves = Unit_done passed ∷ x.moves; sent = x.sent; told = x.told })
  unit f n x passed fold h =
      record {
        old = event-unit N laws f n x passed fold h.old;
        committed = committed-unit N laws packages n f x passed h.committed;
        live = live-unit N laws packages numbers n f x passed h.live;
        early = early-unit-event N laws packages numbers n f x passed h.old h.early;
      }

  showed : (f : Fold) (n : ℕ) (x : NodeWorld N) (s : Status) → N.status (state_of N x) ≡ s → NodeKept f n x
      → NodeKept f n (record { moves = x.moves; sent = x.sent; told = Showed s ∷ x.told })
  showed f n x s status h =
      record {
        old = event-showed N laws f n x s status h.old;
        committed = committed-told N laws packages n f x (Showed s ∷ x.told) h.committed;
        live = live-told N laws packages numbers n f x (Showed s ∷ x.told) h.live;
        early = early-showed-event N laws packages numbers n f x s status h.early;
      }

  unit-told : (f : Fold) (n : ℕ) (x : NodeWorld N) (passed told : Bool) → KeptFold f → NodeKept f n x
      → NodeKept f n
      (record {
        moves = Unit_done passed ∷ x.moves;
        sent = x.sent;
        told = if told then Showed
            (N.status (N.unit (state_of N x) passed)) ∷ x.told else x.told;
      })
  unit-told f n x passed true fold h = showed f n _ _ refl (unit f n x passed fold h)
  unit-told f n x passed false fold h = unit f n x passed fold h

  send : (f : Fold) (n : ℕ) (x : NodeWorld N) (call : Call) (o : Option Current) → f.current ≡ o
      → InCurrent o (λ c. MaySend packages f.epoch n c x.told x.sent call) → KeptFold f → NodeKept f n x
      → NodeKept f n
      (record {
        moves = x.moves;
        sent = record
            { at = next_number f.epoch x.sent; call = call; campaign = campaign_of o; decided = decided_of o }
            ∷ x.sent;
        told = x.told;
      })
  send f n x call None e may fold h = absurd may
  send f n x call (Some c) e may fold h =
      let old = event-send N laws packages f n x c call e may fold h.old in
      record {
        old = old;
        committed = committed-send N laws packages n f x c call e may h.committed;
        live =
            live-send N laws packages numbers n f x
            (record {
              at = next_number f.epoch x.sent;
              call = call;
              campaign = c.campaign;
              decided = is_some c.decision;
            }) (next-exec N laws packages numbers n f x h.old h.live) old h.live;
        early = early-send N laws packages numbers n f x c call e may h.old h.live h.early;
      }

  -- another fold, in which each node sees the same campaign
  listed : (f g : Fold) → ((n : ℕ) → SameFold n f g) → ListKept f → ListKept g
  listed f g same kept =
      record {
        fold = record {
          undecided =
              λ d current none n. let b = (same n).back d current in b.2.ended
              ∙ kept.fold.undecided b.0 b.1 (sym b.2.decision ∙ none) n;
          above =
              λ d current k r h e. let b = (same 0).back d current in
              kept.fold.above b.0 b.1 k r (subst (λ l. IsIn (k, r) l) (same 0).earlier h) (e ∙ b.2.campaign);
        };
        names = λ d current n low high steps.
            let b = (same n).back d current in
            b.2.named ∙ kept.names b.0 b.1 n low high (subst (λ k. packages k n ≢ []) b.2.campaign steps);
      }

  -- another current campaign of this number, which is decided
  changed-list : (f : Fold) (c d : Current) → f.current ≡ Some c → d.campaign ≡ c.campaign → d.named ≡ c.named
      → d.decision ≢ None → ListKept f → ListKept (record f { current = Some d })
  changed-list f c d e k named decided kept =
      record {
        fold = record {
          undecided = λ y current none. absurd (decided (ap (λ z. z.decision) (some-inj d y current) ∙ none));
          above =
              λ y current j r h q. kept.fold.above c e j r h (q
              ∙ (sym (ap (λ z. z.campaign) (some-inj d y current)) ∙ k));
        };
        names = λ y current n low high steps. grind (arith, some-inj);
      }

  carried : (f g : Fold) (n : ℕ) (x : NodeWorld N) → SameFold n f g → (g.epoch ≡ f.epoch) ⊎ (x.told ≡ [])
      → KeptOld N f n x → KeptCommitted N laws packages n f x → KeptLive N f n x → KeptEarly N packages g n x
      → NodeKept g n x
  carried f g n x same quiet old committed live early =
      record {
        old = event-same N laws n f g x same quiet old;
        committed = committed-same N laws packages n f g x same committed;
        live = live-fold N laws packages numbers n f g x (λ k p. present-forth N laws n f g same (λ j. k ≡ j) p) live;
        early = early;
      }

  start : (w : World N) (epoch : ℕ) → epoch ≡ w.fold.epoch + 1 → WorldKept w
      → WorldKept (emptied N w (after_event w.fold (Start epoch)))
  start w epoch e kept =
      record {
        list = listed w.fold (after_event w.fold (Start epoch)) same kept.list;
        each = λ n.
            let x : NodeWorld N = record { moves = (w.node n).moves; sent = (w.node n).sent; told = [] } in
            let h = kept.each n in
            carried w.fold (after_event w.fold (Start epoch)) n x (same n) (inr refl)
            (forget N laws n w.fold (w.node n) h.old)
            (committed-told N laws packages n w.fold (w.node n) [] h.committed)
            (live-told N laws packages numbers n w.fold (w.node n) [] h.live)
            (early-no N laws packages numbers n _ x (λ d current. marked w.fold.current d current));
      }
    where
      same : (n : ℕ) → SameFold n w.fold (after_event w.fold (Start epoch))
      same n = same-fold n w.fold epoch (Start epoch) (omega (arith, e)) (λ c. grind arith)

      marked : (o : Option Current) (d : Current) → changed_in o (Start epoch) ≡ Some d → d.decision ≡ None
          → d.restart ≡ false → ⊥
      marked o d e' undecided quiet = grind arith

  -- a record that changes no part of the campaign that a node sees, but maybe a vote
  plain : (w : World N) (e : MasterEvent) → ((n : ℕ) (c : Current) → SameAt n c (changed c e))
      → ((c : Current) → (changed c e).restart ≡ c.restart)
      → ((n : ℕ) (c : Current) → vote_of (changed c e) n ≡ Some Vote.Yes
      → (vote_of c n ≡ Some Vote.Yes) ⊎ (showed_after_activate Activated (w.node n).told ≡ true)) → WorldKept w
      → WorldKept (record { fold = record w.fold { current = changed_in w.fold.current e }; node = w.node })
  plain w e sames restarts votes kept =
      record {
        list = listed w.fold _ same kept.list;
        each = λ n.
            let h = kept.each n in
            carried w.fold _ n (w.node n) (same n) (inl refl) h.old h.committed h.live
            (early-fold N laws packages numbers n w.fold _ (w.node n) refl
            (λ d current. back n w.fold.current d current) h.early);
      }
    where
      same : (n : ℕ) → SameFold n w.fold (record w.fold { current = changed_in w.fold.current e })
      same n = same-fold n w.fold w.fold.epoch e (omega arith) (λ c. sames n c)

      back : (n : ℕ) (o : Option Current) (d : Current) → changed_in o e ≡ Some d
          → (c : Current) × (o ≡ Some c) × (d.campaign ≡ c.campaign) × (d.decision ≡ c.decision)
          × (d.restart ≡ c.restart)
          × (vote_of d n ≡ Some Vote.Yes
          → (vote_of c n ≡ Some Vote.Yes) ⊎ (showed_after_activate Activated (w.node n).told ≡ true))
      back n None d q = absurd (cc q)
      back n (Some c) d q =
          let same_d = some-inj (changed c e) d q in (
            c,
            refl,
            sym (ap (λ y. y.campaign) same_d) ∙ (sames n c).campaign,
            sym (ap (λ y. y.decision) same_d)
                ∙ (sames n c).decision,
            sym (ap (λ y. y.restart) same_d)
                ∙ restarts c,
            λ v. votes n c (ap (λ y. vote_of y n) same_d ∙ v),
          )

  begin : (w : World N) (k : ℕ) (named : NodeSet) → w.fold.current ≡ None → all_below k w.fold.earlier ≡ true
      → NamesOf packages k named → WorldKept w
      → WorldKept (emptied N w (record w.fold { current = Some (begun k named) }))
  begin w k named none below names kept =
      record {
        list =
            record {
              fold = grind (arith, some-inj, below-in);
              names = λ c current n low high steps. grind
                  (arith, some-inj);
            };
        each = λ n.
            let h = kept.each n in
            record {
              old = event-begin N laws n w.fold (w.node n) k named none below h.old;
              committed =
                  record {
                    calm = λ c current commit. absurd
                        (not_yet c current commit);
                    committed = λ c current commit. absurd
                        (not_yet c current commit);
                    entered = h.committed.entered;
                  };
              live =
                  live-told N laws packages numbers n _ (w.node n) []
                  (live-fold N laws packages numbers n w.fold _ (w.node n)
                  (λ j p. absurd (none-some w.fold.current p.0 none p.1)) h.live);
              early = early-begin N laws packages numbers n w.fold (w.node n) k named none below h.old h.live;
            };
      }
    where
      not_yet : (c : Current) → Some (begun k named) ≡ Some c → c.decision ≡ Some Commit → ⊥
      not_yet c current commit = grind arith

  -- at the decision Commit each named node is ready
  ready : (w : World N) (c : Current) → w.fold.current ≡ Some c → in_current (Some c) (Decide Commit) ≡ None
      → WorldKept w → (n : ℕ) → IsReadyToCommit N laws packages n c (w.node n)
  ready w c current h kept n = grind (arith, unless-true, and_parts, not, ready-node, is_none)

  decide : (w : World N) (d : Decision) (o : Option Current) → w.fold.current ≡ o → in_current o (Decide d) ≡ None
      → WorldKept w → WorldKept (record { fold = record w.fold { current = changed_in o (Decide d) }; node = w.node })
  decide w d None e h kept = absurd (cc h)
  decide w d (Some c) e h kept =
      record {
        list = changed-list w.fold c _ e refl refl (λ q. cc q) kept.list;
        each = λ n.
            let x = kept.each n in
            record {
              old = event-decide N laws n w.fold (w.node n) c d e (decides c d h) x.old;
              committed =
                  committed-decide N laws packages n w.fold (w.node n) c d e
                  (λ q. ready w c e (subst (λ y. in_current (Some c) (Decide y) ≡ None) q h) kept n) x.committed;
              live = live-fold N laws packages numbers n w.fold _ (w.node n) (λ k p. forth n k p) x.live;
              early =
                  early-no N laws packages numbers n _ (w.node n)
                  (λ c' current undecided quiet. grind (arith, some-inj));
            };
      }
    where
      forth : (n k : ℕ) → InPresent w.fold n (λ y. k ≡ y.campaign)
          → InPresent (record w.fold { current = changed_in (Some c) (Decide d) }) n (λ y. k ≡ y.campaign)
      forth n k p = grind arith

  ended : (w : World N) (nd : NodeId) (o : Outcome) (p : Option Current) → w.fold.current ≡ p
      → in_current p (EndedAt nd o) ≡ None
      → InCurrent p (λ c. EndEvidence w.fold.epoch c (w.node nd).told (w.node nd).sent) → WorldKept w
      → WorldKept (record { fold = record w.fold { current = changed_in p (EndedAt nd o) }; node = w.node })
  ended w nd o None e h evidence kept = absurd evidence
  ended w nd o (Some c) e h evidence kept =
      record {
        list = changed-list w.fold c _ e refl refl (ends c nd o h) kept.list;
        each = λ n. elim (eqb_tells n nd)
            [ inl q ↦ here n q.1 | inr q ↦ other n q.1 ];
      }
    where
      after : Fold
      after = record w.fold { current = Some (changed c (EndedAt nd o)) }

      early : (n : ℕ) → KeptEarly N packages after n (w.node n)
      early n =
          early-no N laws packages numbers n after (w.node n)
          (λ d current undecided quiet. ends c nd o h
          (ap (λ y. y.decision) (some-inj (changed c (EndedAt nd o)) d current) ∙ undecided))

      here : (n : ℕ) → n ≡ nd → NodeKept after n (w.node n)
      here n q =
          let evident = subst (λ k. EndEvidence w.fold.epoch c (w.node k).told (w.node k).sent) (sym q) evidence in
          record {
            old =
                event-ended N laws n w.fold after (w.node n) c (changed c (EndedAt nd o))
                e refl refl refl refl refl evident (kept.each n).old;
            committed =
                committed-ended N laws packages n w.fold (w.node n) c (changed c (EndedAt nd o)) e refl refl refl
                (kept.each n).committed;
            live =
                live-ended N laws packages numbers n w.fold after (w.node n) c evident (kept.each n).old
                (kept.each n).live;
            early = early n;
          }

      other : (n : ℕ) → n ≢ nd → NodeKept after n (w.node n)
      other n q =
          carried w.fold after n (w.node n)
          (record {
            epoch = omega arith;
            earlier = refl;
            back = λ d h'. (c, e, subst (λ y. SameAt n c y) (some-inj (changed c (EndedAt nd o)) d h') same);
            forth =
                λ c' h'. (
                  changed c (EndedAt nd o),
                  refl,
                  subst (λ y. SameAt n y (changed c (EndedAt nd o))) (some-inj c c' (sym e ∙ h')) same,
                );
          }) (inl refl) (kept.each n).old (kept.each n).committed (kept.each n).live (early n)
        where
          same : SameAt n c (changed c (EndedAt nd o))
          same = record { campaign = refl; named = refl; ended = part-other c.ended nd n (Some o) q; decision = refl }

  enter : (w : World N) (r : CampaignResult) (p : Option Current) → w.fold.current ≡ p → in_current p (Enter r) ≡ None
      → WorldKept w
      → WorldKept
      (record {
        fold = record { epoch = w.fold.epoch; earlier = entered w.fold.earlier p r; current = None };
        node =
            w.node;
      })
  enter w r None e h kept = absurd (cc h)
  enter w r (Some c) e h kept =
      let m = enters c r h in
      record {
        list = grind arith;
        each = λ n.
            let x = kept.each n in
            record {
              old = event-enter N laws n w.fold (w.node n) c r e m.0 m.1 x.old;
              committed =
                  committed-enter N laws packages n w.fold (w.node n) c r e (kept.list.names c e n)
                  m.0 m.1 x.old x.committed;
              live = live-fold N laws packages numbers n w.fold _ (w.node n) (λ k p. absurd (out n m.0 k p)) x.live;
              early = early-no N laws packages numbers n _ (w.node n) (λ d current undecided quiet. cc current);
            };
      }
    where
      out : (n : ℕ) → all_ended c ≡ true → (k : ℕ) → InPresent w.fold n (λ y. k ≡ y.campaign) → ⊥
      out n all k p = grind (arith, flagged-ended)

  -- a vote Yes was shown
  voted : (w : World N) (nd : NodeId) (v : Vote) → Evidence N packages numbers w (VoteOf nd v) → (n : ℕ) (c : Current)
      → vote_of (changed c (VoteOf nd v)) n ≡ Some Vote.Yes
      → (vote_of c n ≡ Some Vote.Yes) ⊎ (showed_after_activate Activated (w.node n).told ≡ true)
  voted w nd v evidence n c y = grind (arith, part-with, showed_after_activate)

  of-record : (w : World N) (e : MasterEvent) → refusal_of w.fold e ≡ None → Evidence N packages numbers w e
      → WorldKept w → WorldKept (recorded N w e)
  of-record w (Start epoch) h evidence kept =
      start w epoch (eqb-true epoch (w.fold.epoch + 1) (unless-true (nat_eq epoch (w.fold.epoch + 1)) h)) kept
  of-record w (Begin k named) h evidence kept =
      let b = begins w.fold k named h in begin w k named b.0 b.1 evidence.1 kept
  of-record w (VoteOf nd v) h evidence kept =
      plain w (VoteOf nd v) (λ n c. same-refl n c (changed c (VoteOf nd v)) refl refl refl refl) (λ c. refl)
      (voted w nd v evidence) kept
  of-record w (Decide d) h evidence kept = decide w d w.fold.current refl h kept
  of-record w (EndedAt nd o) h evidence kept = ended w nd o w.fold.current refl h evidence kept
  of-record w (Enter r) h evidence kept = enter w r w.fold.current refl h kept
  of-record w x h evidence kept =
      plain w x (λ n c. same-refl n c (changed c x) refl refl refl refl) (λ c. refl) (λ n c v. inl v) kept

  keeps : (w : World N) (e : Event N) → Allowed N packages numbers w e → WorldKept w → WorldKept (happens N w e)
  keeps w (Deliver n which told) allowed kept =
      one-node w n _ kept
      (deliver w.fold n (w.node n) (slice_get (w.node n).sent which) told (λ m e. nth-in (w.node n).sent which m e)
      kept.list.fold (kept.each n))
  keeps w (ForeignCalls n call) allowed kept =
      one-node w n _ kept (foreign w.fold n (w.node n) call kept.list.fold (kept.each n))
  keeps w (Unit_comes n passed told) allowed kept =
      one-node w n _ kept (unit-told w.fold n (w.node n) passed told kept.list.fold (kept.each n))
  keeps w (Send n call) allowed kept =
      one-node w n _ kept (send w.fold n (w.node n) call w.fold.current refl allowed kept.list.fold (kept.each n))
  keeps w (Record e) allowed kept = of-record w e allowed.0 allowed.1 kept
  keeps w Restart allowed kept = start w (w.fold.epoch + 1) refl kept

  kept-formatted : WorldKept (formatted_world N)
  kept-formatted = grind arith

  kept-opened : (openings : ℕ → N.ForeignCall) → WorldKept (opened_world N openings)
  kept-opened openings =
      record {
        list = kept-formatted.list;
        each = λ n. foreign nothing_yet n
            (record { moves = []; sent = []; told = [] }) (openings n) kept-formatted.list.fold (kept-formatted.each n);
      }

  kept-all : (events : List (Event N)) (w v : World N) → WorldKept w → Makes N packages numbers w events v → WorldKept v
  kept-all [] w v kept made = subst (λ y. WorldKept y) (sym made) kept
  kept-all (e ∷ es) w v kept made = kept-all es (happens N w e) v (keeps w e made.0 kept) made.1

  -- with Enter Failed or Cancelled a node is old
  left-old : (w : World N) → WorldKept w → (k : ℕ) (result : CampaignResult) → IsIn (k, result) w.fold.earlier
      → result ≢ Successful → (n : ℕ) → IsOld N k (w.node n).moves
  left-old w kept k result earlier failed n =
      record {
        all_ended = closed (spans N k (w.node n).moves).is_open refl;
        leave =
            (kept.each n).old.entered k result earlier failed;
      }
    where
      closed : (b : Bool) → (spans N k (w.node n).moves).is_open ≡ b → (spans N k (w.node n).moves).is_open ≡ false
      closed false e = e
      closed true e =
          let p = (kept.each n).old.session k ((kept.each n).old.open_span k e) in
          absurd (kept.list.fold.above p.0 p.1 k result earlier p.4)

-- the law over every list of events, with no premise but the laws of a node:
-- with Enter Successful each named node is new, with Enter Failed or Cancelled it is old
pub world-law : (N : NodeRules) → WorldLaw N
world-law N laws packages numbers openings events w made k result entered n low high steps = go result entered
  where
    kept : WorldKept N laws packages numbers w
    kept =
        kept-all N laws packages numbers events (opened_world N openings) w
        (kept-opened N laws packages numbers openings) made

    go : (r : CampaignResult) → IsIn (k, r) w.fold.earlier
        → IsLeft N r k (flat_map N.changes_of (packages k n)) (w.node n).moves
    go Successful h = (kept.each n).committed.entered k h low high steps
    go x h = left-old N laws packages numbers w kept k x h (λ e. cc e) n
