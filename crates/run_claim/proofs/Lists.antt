-- What the result of the master's list says of its decision and of the ends of its nodes.
use Rattle.std.specs.Prelude.{◌≡◌, ◌≢◌, ◌⊎◌, ℕ, ◌≤◌, Bool, true, false, ◌&&◌, ◌||◌, if◌then◌else◌, nat_eq, nat_lt, nat_le, is_none, List, [], ◌∷◌, Option, Some, None}
use Rattle.std.specs.List.{AllByRecursion}
use Rattle.std.proofs.Common.{refl, inl, inr, sym, ap, ◌∙◌, subst, arith}
use Rattle.std.proofs.lemmas.Bool.{and_parts, eq-eqb}
use Rattle.std.proofs.lemmas.Bool.Decides.{nat_tests}
use Rattle.ucm_base.specs.declared.ids.NodeSet.{NodeSet}
use Rattle.pm_types.specs.declared.status.Outcome.{Outcome}
use Rattle.campaign_core.specs.declared.events.CampaignResult.{CampaignResult}
use Rattle.campaign_core.specs.declared.events.CampaignResult.TheVariants.{Successful, Failed, Cancelled}
use Rattle.campaign_core.specs.declared.events.Decision.{Decision}
use Rattle.campaign_core.specs.declared.events.Decision.TheVariants.{Commit, Abort}
use Rattle.campaign_core.specs.declared.events.MasterEvent.{MasterEvent}
use Rattle.campaign_core.specs.declared.events.MasterEvent.TheVariants.{Start, Begin, PhaseTo, VoteOf, CancelAsked, Decide, EndedAt, Enter}
use Rattle.campaign_core.specs.declared.events.Vote.{Vote}
use Rattle.campaign_core.specs.declared.fold.Current.{Current}
use Rattle.campaign_core.specs.declared.fold.Fold.{Fold}
use Rattle.campaign_core.specs.Campaign.{IsLegalFrom, all_ended, is_result_of, end_of, unless, begun, changed, is_undecided, all_yes, vote_of, may_decide, is_new_of}
use Rattle.campaign_core.specs.Nodes.{flag_of, part_of, with_part}
use Rattle.world.proofs.Records.{flagged-ended, flagged-yes, part-other, part-with}
use Rattle.run_claim.specs.Script.{Script, packages_of}
use Rattle.run_claim.specs.Masters.{has_commit, has_end}
use Rattle.run_claim.proofs.Closed.{each_node}
use Rattle.run_claim.specs.Evidence.{votes_on, InVotes}
use Rattle.run_claim.specs.Left.{BeginsSo, result_of, later_or}

-- an event that isn't refused meets its condition
pub allowed : (b : Bool) → unless b ≡ None → b ≡ true
allowed true e = refl
allowed false e = absurd (cc e)

-- a Start leaves all but the restart mark
pub started : (b : Bool) (c : Current) → let d : Current = if b then record c { restart = true } else c in
    (d.campaign ≡ c.campaign) × (d.decision ≡ c.decision) × (d.named ≡ c.named) × (d.ended ≡ c.ended)
    × (d.votes ≡ c.votes)
started true c = (refl, refl, refl, refl, refl)
started false c = (refl, refl, refl, refl, refl)

module _ (s : Script) where
  -- nothing of a campaign comes after its result
  abbrev over : ℕ → CampaignResult → Fold
  over epoch r = record { epoch = epoch; earlier = (s.campaign, r) ∷ []; current = None }

  after-result : (es : List MasterEvent) (epoch : ℕ) (r : CampaignResult) → IsLegalFrom (over epoch r) es
      → AllByRecursion (BeginsSo s) es → (result_of es ≡ None) × (has_commit es ≡ false)
  after-result [] epoch r legal begins = (refl, refl)
  after-result (Start e ∷ es) epoch r legal begins = after-result es e r legal.1 begins.1
  after-result (Begin k named ∷ es) epoch r legal begins =
      let a = allowed _ legal.0 in
      let b =
      (and_parts (nat_lt s.campaign k && true) _
      (and_parts (nat_le 1 k) _ (and_parts (nat_le 1 epoch) _ a).1).1).0 in
      let c = begins.0.0 in
      absurd (grind (arith, nat_tests, b, c))
  after-result (_ ∷ es) epoch r legal begins = absurd (cc legal.0)

  abbrev in_campaign : ℕ → Current → Fold
  in_campaign epoch c = record { epoch = epoch; earlier = []; current = Some c }

  -- a campaign that failed or was cancelled was not committed, and its nodes have ended
  record WasAborted (c : Current) (es : List MasterEvent) : Type 0 where
    no_commit : has_commit es ≡ false
    undecided : c.decision ≢ Some Commit
    ended : (n : ℕ) → flag_of c.named n ≡ true → (end_of c n ≢ None) ⊎ (has_end n es ≡ true)

  aborted : (es : List MasterEvent) (epoch : ℕ) (c : Current) (r : CampaignResult) → c.campaign ≡ s.campaign
      → IsLegalFrom (in_campaign epoch c) es → AllByRecursion (BeginsSo s) es → result_of es ≡ Some r → r ≢ Successful
      → WasAborted c es
  aborted [] epoch c r k legal begins e f = absurd (cc e)
  aborted (Start x ∷ es) epoch c r k legal begins e f =
      let same = started (is_undecided c) c in
      let h = aborted es x (changed c (Start x)) r (same.0 ∙ k) legal.1 begins.1 e f in record {
        no_commit = h.no_commit;
        undecided = λ q. h.undecided (same.1 ∙ q);
        ended =
            λ n flag. subst (λ (xs : List (Option Outcome)). (part_of None xs n ≢ None) ⊎ (has_end n es ≡ true)) same.3
            (h.ended n (ap (λ x. flag_of x n) same.2 ∙ flag));
      }
  aborted (Begin _ _ ∷ es) epoch c r k legal begins e f = absurd (busy (nat_le 1 epoch) (allowed _ legal.0))
    where
      busy : (b : Bool) → (b && false) ≡ true → ⊥
      busy true q = cc q
      busy false q = cc q
  aborted (PhaseTo p ∷ es) epoch c r k legal begins e f =
      let h = aborted es epoch (record c { phase = Some p }) r k legal.1 begins.1 e f in
      record { no_commit = h.no_commit; undecided = h.undecided; ended = h.ended }
  aborted (VoteOf m v ∷ es) epoch c r k legal begins e f =
      let h = aborted es epoch (record c { votes = with_part c.votes m (Some v) }) r k legal.1 begins.1 e f in
      record { no_commit = h.no_commit; undecided = h.undecided; ended = h.ended }
  aborted (CancelAsked ∷ es) epoch c r k legal begins e f =
      let h = aborted es epoch (record c { cancel = true }) r k legal.1 begins.1 e f in
      record { no_commit = h.no_commit; undecided = h.undecided; ended = h.ended }
  aborted (Decide Commit ∷ es) epoch c r k legal begins e f =
      let h = aborted es epoch (record c { decision = Some Commit }) r k legal.1 begins.1 e f in
      absurd (h.undecided refl)
  aborted (Decide (Abort x) ∷ es) epoch c r k legal begins e f =
      let h = aborted es epoch (record c { decision = Some (Abort x) }) r k legal.1 begins.1 e f in record {
        no_commit = h.no_commit;
        undecided =
            λ q. (let none = (and_parts (is_undecided c) _ (allowed _ legal.0)).0 in
            let no : is_none (Some Commit) ≡ true = subst (λ (d : Option Decision). is_none d ≡ true) q none in cc no);
        ended = h.ended;
      }
  aborted (EndedAt m o ∷ es) epoch c r k legal begins e f =
      let h = aborted es epoch (record c { ended = with_part c.ended m (Some o) }) r k legal.1 begins.1 e f in record {
        no_commit = h.no_commit;
        undecided = h.undecided;
        ended = λ n flag. at n (nat_eq m n) refl (h.ended n flag);
      }
    where
      at : (n : ℕ) (b : Bool) → nat_eq m n ≡ b
          → (part_of None (with_part c.ended m (Some o)) n ≢ None) ⊎ (has_end n es ≡ true)
          → (end_of c n ≢ None) ⊎ ((nat_eq m n || has_end n es) ≡ true)
      at n true q h = inr (ap (λ (b : Bool). b || has_end n es) q)
      at n false q (inr h) = inr (ap (λ (b : Bool). b || has_end n es) q ∙ h)
      at n false q (inl h) =
          inl (λ z. h (part-other c.ended m n (Some o)
          (λ same. let no : nat_eq m m ≡ false = subst (λ (i : ℕ). nat_eq m i ≡ false) same q in
          grind (arith, nat_tests, no)) ∙ z))
  aborted (Enter x ∷ es) epoch c r k legal begins e f =
      let there : (all_ended c && is_result_of c.decision x) ≡ true = allowed _ legal.0 in
      let over_ =
      after-result es epoch x (subst
      (λ (n : ℕ). IsLegalFrom (record { epoch = epoch; earlier = (n, x) ∷ []; current = None }) es) k legal.1)
      begins.1 in
      let same : x ≡ r =
      (let q : Some (later_or None x) ≡ Some r =
      ap (λ (o : Option CampaignResult). Some (later_or o x)) (sym over_.0) ∙ e in cc q) in
      record {
        no_commit = over_.1;
        undecided = λ q. f (sym same ∙ committed x c.decision (and_parts (all_ended c) _ there).1 q);
        ended =
            λ n flag. inl (λ none. flagged-ended c.named.flags c.ended n (and_parts (all_ended c) _ there).0 flag none);
      }
    where
      committed : (x : CampaignResult) (d : Option Decision) → is_result_of d x ≡ true → d ≡ Some Commit
          → x ≡ Successful
      committed x d q w = by x (subst (λ (d : Option Decision). is_result_of d x ≡ true) w q)
        where
          by : (x : CampaignResult) → is_result_of (Some Commit) x ≡ true → x ≡ Successful
          by Successful q = refl
          by Failed q = absurd (cc q)
          by Cancelled q = absurd (cc q)

  -- no node of a campaign that has just begun has ended
  none-ended : (k n : ℕ) (named : NodeSet) → 1 ≤ n → n ≤ 8 → end_of (begun k named) n ≡ None
  none-ended k n named low high =
      each_node (λ n. end_of (begun k named) n ≡ None)
      (refl, (refl, (refl, (refl, (refl, (refl, (refl, (refl, tt)))))))) n low high

  abbrev WasFailed : List MasterEvent → Type 0
  WasFailed es = (has_commit es ≡ false) × ((n : ℕ) → 1 ≤ n → n ≤ 8 → packages_of s n ≢ [] → has_end n es ≡ true)

  -- a list whose campaign failed or was cancelled has no Commit, and the end of each named node
  pub failed : (es : List MasterEvent) (epoch : ℕ) (r : CampaignResult)
      → IsLegalFrom (record { epoch = epoch; earlier = []; current = None }) es → AllByRecursion (BeginsSo s) es
      → result_of es ≡ Some r → r ≢ Successful → WasFailed es
  failed [] epoch r legal begins e f = absurd (cc e)
  failed (Start x ∷ es) epoch r legal begins e f = let h = failed es x r legal.1 begins.1 e f in (h.0, h.1)
  failed (Begin k named ∷ es) epoch r legal begins e f =
      let h = aborted es epoch (begun k named) r begins.0.0 legal.1 begins.1 e f in (
        h.no_commit,
        λ n low high some. elim (h.ended n ((begins.0.1.1 n low high).1 some)) [
          | inl x ↦ absurd (x (none-ended k n named low high))
          | inr y ↦ y
        ],
      )
  failed (_ ∷ es) epoch r legal begins e f = absurd (cc legal.0)

  -- a node that a campaign with a result names has ended
  all-end : (es : List MasterEvent) (epoch : ℕ) (c : Current) (r : CampaignResult)
      → IsLegalFrom (in_campaign epoch c) es → result_of es ≡ Some r → (n : ℕ) → flag_of c.named n ≡ true
      → (end_of c n ≢ None) ⊎ (has_end n es ≡ true)
  all-end [] epoch c r legal e n flag = absurd (cc e)
  all-end (Start x ∷ es) epoch c r legal e n flag =
      let same = started (is_undecided c) c in
      subst (λ (xs : List (Option Outcome)). (part_of None xs n ≢ None) ⊎ (has_end n es ≡ true)) same.3
      (all-end es x (changed c (Start x)) r legal.1 e n (ap (λ y. flag_of y n) same.2 ∙ flag))
  all-end (Begin _ _ ∷ es) epoch c r legal e n flag = absurd (busy (nat_le 1 epoch) (allowed _ legal.0))
    where
      busy : (b : Bool) → (b && false) ≡ true → ⊥
      busy true q = cc q
      busy false q = cc q
  all-end (PhaseTo p ∷ es) epoch c r legal e n flag = all-end es epoch (record c { phase = Some p }) r legal.1 e n flag
  all-end (VoteOf m v ∷ es) epoch c r legal e n flag =
      all-end es epoch (record c { votes = with_part c.votes m (Some v) }) r legal.1 e n flag
  all-end (CancelAsked ∷ es) epoch c r legal e n flag = all-end es epoch (record c { cancel = true }) r legal.1 e n flag
  all-end (Decide d ∷ es) epoch c r legal e n flag =
      all-end es epoch (record c { decision = Some d }) r legal.1 e n flag
  all-end (EndedAt m o ∷ es) epoch c r legal e n flag =
      at (nat_eq m n) refl (all-end es epoch (record c { ended = with_part c.ended m (Some o) }) r legal.1 e n flag)
    where
      at : (b : Bool) → nat_eq m n ≡ b → (part_of None (with_part c.ended m (Some o)) n ≢ None) ⊎ (has_end n es ≡ true)
          → (end_of c n ≢ None) ⊎ ((nat_eq m n || has_end n es) ≡ true)
      at true q h = inr (ap (λ (b : Bool). b || has_end n es) q)
      at false q (inr h) = inr (ap (λ (b : Bool). b || has_end n es) q ∙ h)
      at false q (inl h) =
          inl (λ z. h (part-other c.ended m n (Some o)
          (λ same. let no : nat_eq m m ≡ false = subst (λ (i : ℕ). nat_eq m i ≡ false) same q in
          grind (arith, nat_tests, no)) ∙ z))
  all-end (Enter x ∷ es) epoch c r legal e n flag =
      let there : (all_ended c && is_result_of c.decision x) ≡ true = allowed _ legal.0 in
      inl (λ none. flagged-ended c.named.flags c.ended n (and_parts (all_ended c) _ there).0 flag none)

  -- the result is that of the decision
  pub by-decision : (es : List MasterEvent) (epoch : ℕ) (c : Current) (d : Decision) (r : CampaignResult)
      → c.campaign ≡ s.campaign → c.decision ≡ Some d → IsLegalFrom (in_campaign epoch c) es
      → AllByRecursion (BeginsSo s) es → result_of es ≡ Some r → is_result_of (Some d) r ≡ true
  by-decision [] epoch c d r k q legal begins e = absurd (cc e)
  by-decision (Start x ∷ es) epoch c d r k q legal begins e =
      let same = started (is_undecided c) c in
      by-decision es x (changed c (Start x)) d r (same.0 ∙ k) (same.1 ∙ q) legal.1 begins.1 e
  by-decision (Begin _ _ ∷ es) epoch c d r k q legal begins e = absurd (busy (nat_le 1 epoch) (allowed _ legal.0))
    where
      busy : (b : Bool) → (b && false) ≡ true → ⊥
      busy true q = cc q
      busy false q = cc q
  by-decision (PhaseTo p ∷ es) epoch c d r k q legal begins e =
      by-decision es epoch (record c { phase = Some p }) d r k q legal.1 begins.1 e
  by-decision (VoteOf m v ∷ es) epoch c d r k q legal begins e =
      by-decision es epoch (record c { votes = with_part c.votes m (Some v) }) d r k q legal.1 begins.1 e
  by-decision (CancelAsked ∷ es) epoch c d r k q legal begins e =
      by-decision es epoch (record c { cancel = true }) d r k q legal.1 begins.1 e
  by-decision (Decide x ∷ es) epoch c d r k q legal begins e =
      absurd (let none = undecided x (allowed _ legal.0) in
      let no : is_none (Some d) ≡ true = subst (λ (o : Option Decision). is_none o ≡ true) q none in cc no)
    where
      undecided : (x : Decision) → may_decide c x ≡ true → is_undecided c ≡ true
      undecided Commit h = (and_parts (is_undecided c) _ h).0
      undecided (Abort y) h = (and_parts (is_undecided c) _ h).0
  by-decision (EndedAt m o ∷ es) epoch c d r k q legal begins e =
      by-decision es epoch (record c { ended = with_part c.ended m (Some o) }) d r k q legal.1 begins.1 e
  by-decision (Enter x ∷ es) epoch c d r k q legal begins e =
      let there : (all_ended c && is_result_of c.decision x) ≡ true = allowed _ legal.0 in
      let over_ =
      after-result es epoch x (subst
      (λ (n : ℕ). IsLegalFrom (record { epoch = epoch; earlier = (n, x) ∷ []; current = None }) es) k legal.1)
      begins.1 in
      let same : x ≡ r =
      (let q : Some (later_or None x) ≡ Some r =
      ap (λ (o : Option CampaignResult). Some (later_or o x)) (sym over_.0) ∙ e in cc q) in
      subst (λ (y : CampaignResult). is_result_of (Some d) y ≡ true) same
      (subst (λ (o : Option Decision). is_result_of o x ≡ true) q (and_parts (all_ended c) _ there).1)

  -- a successful campaign was committed, after the Yes of each named node
  record WasCommitted (c : Current) (es : List MasterEvent) : Type 0 where
    commit : has_commit es ≡ true
    yes : (n : ℕ) → flag_of c.named n ≡ true → (vote_of c n ≡ Some Vote.Yes) ⊎ InVotes Vote.Yes (votes_on n es)

  committed : (es : List MasterEvent) (epoch : ℕ) (c : Current) → c.campaign ≡ s.campaign → c.decision ≡ None
      → IsLegalFrom (in_campaign epoch c) es → AllByRecursion (BeginsSo s) es → result_of es ≡ Some Successful
      → WasCommitted c es
  committed [] epoch c k q legal begins e = absurd (cc e)
  committed (Start x ∷ es) epoch c k q legal begins e =
      let same = started (is_undecided c) c in
      let h = committed es x (changed c (Start x)) (same.0 ∙ k) (same.1 ∙ q) legal.1 begins.1 e in record {
        commit = h.commit;
        yes =
            λ n flag. subst (λ (vs : List (Option Vote)). (part_of None vs n ≡ Some Vote.Yes)
            ⊎ InVotes Vote.Yes (votes_on n es)) same.4 (h.yes n (ap (λ y. flag_of y n) same.2 ∙ flag));
      }
  committed (Begin _ _ ∷ es) epoch c k q legal begins e = absurd (busy (nat_le 1 epoch) (allowed _ legal.0))
    where
      busy : (b : Bool) → (b && false) ≡ true → ⊥
      busy true q = cc q
      busy false q = cc q
  committed (PhaseTo p ∷ es) epoch c k q legal begins e = let h =
      committed es epoch (record c { phase = Some p }) k q legal.1 begins.1 e in
      record { commit = h.commit; yes = h.yes }
  committed (VoteOf m v ∷ es) epoch c k q legal begins e =
      let h = committed es epoch (record c { votes = with_part c.votes m (Some v) }) k q legal.1 begins.1 e in
      record { commit = h.commit; yes = λ n flag. at n (nat_eq m n) refl (h.yes n flag) }
    where
      at : (n : ℕ) (b : Bool) → nat_eq m n ≡ b
          → (part_of None (with_part c.votes m (Some v)) n ≡ Some Vote.Yes) ⊎ InVotes Vote.Yes (votes_on n es)
          → (vote_of c n ≡ Some Vote.Yes) ⊎ InVotes Vote.Yes (if nat_eq m n then v ∷ votes_on n es else votes_on n es)
      at n b p (inr h) = inr (in-more b p h)
        where
          in-more : (b : Bool) → nat_eq m n ≡ b → InVotes Vote.Yes (votes_on n es)
              → InVotes Vote.Yes (if nat_eq m n then v ∷ votes_on n es else votes_on n es)
          in-more true p h =
              subst (λ (b : Bool). InVotes Vote.Yes (if b then v ∷ votes_on n es else votes_on n es)) (sym p) (inr h)
          in-more false p h =
              subst (λ (b : Bool). InVotes Vote.Yes (if b then v ∷ votes_on n es else votes_on n es)) (sym p) h
      at n b p (inl h) = elim (part-with c.votes m n (Some v) Vote.Yes h) [
        | inl old ↦ inl old
        | inr new ↦ inr (let same : nat_eq m n ≡ true = eq-eqb m n (sym new.0) in
            let is : Vote.Yes ≡ v = (let z = new.1 in cc z) in
            subst (λ (b : Bool). InVotes Vote.Yes (if b then v ∷ votes_on n es else votes_on n es)) (sym same) (inl is))
      ]
  committed (CancelAsked ∷ es) epoch c k q legal begins e = let h =
      committed es epoch (record c { cancel = true }) k q legal.1 begins.1 e in
      record { commit = h.commit; yes = h.yes }
  committed (Decide Commit ∷ es) epoch c k q legal begins e = record {
    commit = refl;
    yes =
        λ n flag. inl (flagged-yes c.named.flags c.votes n
        (and_parts (all_yes c) _ (and_parts (is_undecided c) _ (allowed _ legal.0)).1).0 flag);
  }
  committed (Decide (Abort x) ∷ es) epoch c k q legal begins e =
      absurd (let no =
      by-decision es epoch (record c { decision = Some (Abort x) }) (Abort x) Successful k refl legal.1 begins.1 e in
      cc no)
  committed (EndedAt m o ∷ es) epoch c k q legal begins e =
      absurd (let a = (and_parts (is_none (end_of c m)) _ (and_parts (flag_of c.named m) _ (allowed _ legal.0)).1).1 in
      let no : is_new_of None o ≡ true = subst (λ (d : Option Decision). is_new_of d o ≡ true) q a in cc no)
  committed (Enter x ∷ es) epoch c k q legal begins e =
      absurd (let a : is_result_of c.decision x ≡ true = (and_parts (all_ended c) _ (allowed _ legal.0)).1 in
      let no : is_result_of None x ≡ true = subst (λ (d : Option Decision). is_result_of d x ≡ true) q a in cc no)

  abbrev pub WasSuccessful : List MasterEvent → Type 0
  WasSuccessful es =
      (has_commit es ≡ true) × ((n : ℕ) → 1 ≤ n → n ≤ 8 → packages_of s n ≢ []
      → (has_end n es ≡ true) × InVotes Vote.Yes (votes_on n es))

  none-voted : (k n : ℕ) (named : NodeSet) → 1 ≤ n → n ≤ 8 → vote_of (begun k named) n ≡ None
  none-voted k n named low high =
      each_node (λ n. vote_of (begun k named) n ≡ None)
      (refl, (refl, (refl, (refl, (refl, (refl, (refl, (refl, tt)))))))) n low high

  -- a list whose campaign succeeded has a Commit, and the Yes and the end of each named node
  pub succeeded : (es : List MasterEvent) (epoch : ℕ)
      → IsLegalFrom (record { epoch = epoch; earlier = []; current = None }) es → AllByRecursion (BeginsSo s) es
      → result_of es ≡ Some Successful → WasSuccessful es
  succeeded [] epoch legal begins e = absurd (cc e)
  succeeded (Start x ∷ es) epoch legal begins e = let h = succeeded es x legal.1 begins.1 e in (h.0, h.1)
  succeeded (Begin k named ∷ es) epoch legal begins e =
      let h = committed es epoch (begun k named) begins.0.0 refl legal.1 begins.1 e in (
        h.commit,
        λ n low high some.
            let flag = (begins.0.1.1 n low high).1 some in (
              elim (all-end es epoch (begun k named) Successful legal.1 e n flag)
                  [ inl x ↦ absurd (x (none-ended k n named low high)) | inr y ↦ y ],
              elim (h.yes n flag) [
                | inl x ↦ absurd (let none = none-voted k n named low high in cc (none, x))
                | inr y ↦ y
              ],
            ),
      )
  succeeded (_ ∷ es) epoch legal begins e = absurd (cc legal.0)
