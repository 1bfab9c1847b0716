-- A campaign that failed, with no cancel asked for and no restart, has a vote of no.
use Rattle.std.specs.Prelude.{◌≡◌, ◌≢◌, ◌⊎◌, ℕ, zero, suc, ◌+◌, ◌≤◌, Bool, true, false, not, ◌&&◌, ◌||◌, cond, if◌then◌else◌, nat_eq, nat_le, is_none, List, [], ◌∷◌, length, replicate, slice_index_or, Option, Some, None}
use Rattle.std.specs.List.{AllByRecursion, list_any, position_from}
use Rattle.std.proofs.Common.{refl, inl, inr, sym, ap, ◌∙◌, subst, arith}
use Rattle.std.proofs.lemmas.Bool.{and_parts, eq-eqb}
use Rattle.std.proofs.lemmas.Bool.Decides.{nat_tests}
use Rattle.std.proofs.lemmas.List.{get_or_past}
use Rattle.ucm_base.specs.declared.ids.NodeSet.{NodeSet}
use Rattle.campaign_core.specs.declared.events.CampaignResult.{CampaignResult}
use Rattle.campaign_core.specs.declared.events.CampaignResult.TheVariants.{Successful}
use Rattle.campaign_core.specs.declared.events.Cause.{Cause}
use Rattle.campaign_core.specs.declared.events.Decision.TheVariants.{Commit, Abort}
use Rattle.campaign_core.specs.declared.events.MasterEvent.{MasterEvent}
use Rattle.campaign_core.specs.declared.events.MasterEvent.TheVariants.{Start, Begin, PhaseTo, VoteOf, CancelAsked, Decide, EndedAt, Enter}
use Rattle.campaign_core.specs.declared.events.Vote.{Vote}
use Rattle.campaign_core.specs.declared.fold.Current.{Current}
use Rattle.campaign_core.specs.Campaign.{IsLegalFrom, all_ended, begun, cause_of, end_of, first_no, is_cause, is_new_of, is_result_of, is_undecided, is_yes, vote_of, voted_no}
use Rattle.campaign_core.specs.Nodes.{flag_of, part_of, with_part}
use Rattle.world.proofs.Records.{part-with}
use Rattle.run_claim.specs.Script.{Script, packages_of}
use Rattle.run_claim.specs.Cancelled.{has_asked}
use Rattle.run_claim.specs.Evidence.{votes_on, InVotes}
use Rattle.run_claim.specs.Left.{BeginsSo, result_of}
use Rattle.run_claim.specs.Law.{is_restart}
use Rattle.run_claim.proofs.Lists.{allowed, by-decision}

-- what was found is a vote of no
found-no : (xs : List (Option Vote)) (i n : ℕ) → position_from voted_no i xs ≡ Some n
    → (j : ℕ) × (n ≡ i + j) × (voted_no (slice_index_or xs j None) ≡ true)
found-no [] i n e = absurd (cc e)
found-no (x ∷ xs) i n e = go (voted_no x) refl e (found-no xs (i + 1) n)
  where
    go : (b : Bool) → voted_no x ≡ b → cond b (Some i) (position_from voted_no (i + 1) xs) ≡ Some n
        → (position_from voted_no (i + 1) xs ≡ Some n
        → (j : ℕ) × (n ≡ (i + 1) + j) × (voted_no (slice_index_or xs j None) ≡ true))
        → (j : ℕ) × (n ≡ i + j) × (voted_no (slice_index_or (x ∷ xs) j None) ≡ true)
    go true q f rec = let same : i ≡ n = cc f in (0, omega (arith, same), q)
    go false q f rec = let r = rec f in let s = r.1 in (suc r.0, omega (arith, s), r.2)

no-vote : (o : Option Vote) → voted_no o ≡ true → (v : Vote) × (o ≡ Some v) × (is_yes v ≡ false)
no-vote None e = absurd (cc e)
no-vote (Some v) e = (v, refl, not-true (is_yes v) e)
  where
    not-true : (b : Bool) → not b ≡ true → b ≡ false
    not-true true q = absurd (cc q)
    not-true false q = refl

or-parts : (a b : Bool) → (a || b) ≡ false → (a ≡ false) × (b ≡ false)
or-parts false false e = (refl, refl)
or-parts false true e = absurd (cc e)
or-parts true b e = absurd (cc e)

nones : (m i : ℕ) → ◌≡◌ {A = Option Vote} (slice_index_or (replicate m None) i None) None
nones zero i = refl
nones (suc m) zero = refl
nones (suc m) (suc i) = nones m i

le-of : (n : ℕ) → nat_le 1 n ≡ true → 1 ≤ n
le-of n e = grind (arith, nat_tests, e)

in-range : (named : NodeSet) → length named.flags ≡ 8 → (n : ℕ) → flag_of named n ≡ true → (1 ≤ n) × (n ≤ 8)
in-range named e zero f = absurd (cc f)
in-range named e (suc i) f = grind (arith, get_or_past named.flags i false, e, f)

module _ (s : Script) where
  -- a vote of no, from before or among the events that come
  record Blamed (c : Current) (es : List MasterEvent) : Type 0 where
    node : ℕ
    vote : Vote
    is_no : is_yes vote ≡ false
    there : (vote_of c node ≡ Some vote) ⊎ (InVotes vote (votes_on node es) × (flag_of c.named node ≡ true))

  -- the fields that no Start changes
  moved : (c d : Current) (es fs : List MasterEvent) → d.votes ≡ c.votes → d.named ≡ c.named
      → ((n : ℕ) → votes_on n fs ≡ votes_on n es) → Blamed d es → Blamed c fs
  moved c d es fs votes named same h = record {
    node = h.node;
    vote = h.vote;
    is_no = h.is_no;
    there = elim h.there [
      | inl old ↦ inl (ap (λ (vs : List (Option Vote)). part_of None vs h.node) (sym votes) ∙ old)
      | inr new ↦ inr (
        subst (InVotes h.vote) (sym (same h.node)) new.0,
        ap (λ (ns : NodeSet). flag_of ns h.node) (sym named) ∙ new.1,
      )
    ];
  }

  blamed : (es : List MasterEvent) (epoch : ℕ) (c : Current) (r : CampaignResult) → 1 ≤ epoch → c.campaign ≡ s.campaign
      → c.decision ≡ None → c.cancel ≡ false → c.restart ≡ false
      → IsLegalFrom (record { epoch = epoch; earlier = []; current = Some c }) es → AllByRecursion (BeginsSo s) es
      → has_asked es ≡ false → list_any is_restart es ≡ false → result_of es ≡ Some r → r ≢ Successful → Blamed c es
  blamed [] epoch c r low k q x y legal begins asked restarts e f = absurd (cc e)
  blamed (Start z ∷ es) epoch c r low k q x y legal begins asked restarts e f =
      absurd (let a = allowed (nat_eq z (epoch + 1)) legal.0 in
      let b = (or-parts (nat_le 2 z) (list_any is_restart es) restarts).0 in grind (arith, nat_tests, a, b, low))
  blamed (Begin _ _ ∷ es) epoch c r low k q x y legal begins asked restarts e f =
      absurd (busy (nat_le 1 epoch) (allowed _ legal.0))
    where
      busy : (b : Bool) → (b && false) ≡ true → ⊥
      busy true q = cc q
      busy false q = cc q
  blamed (PhaseTo p ∷ es) epoch c r low k q x y legal begins asked restarts e f =
      moved c (record c { phase = Some p }) es (PhaseTo p ∷ es) refl refl (λ n. refl)
      (blamed es epoch (record c { phase = Some p }) r low k q x y legal.1 begins.1 asked restarts e f)
  blamed (VoteOf m v ∷ es) epoch c r low k q x y legal begins asked restarts e f =
      let h =
      blamed es epoch (record c { votes = with_part c.votes m (Some v) }) r low k q x y legal.1 begins.1 asked
      restarts e f in
      record { node = h.node; vote = h.vote; is_no = h.is_no; there = at h.node h.vote h.there }
    where
      flag : flag_of c.named m ≡ true
      flag =
          (and_parts (flag_of c.named m) _
          (and_parts (not c.restart) _ (and_parts (is_undecided c) _ (allowed _ legal.0)).1).1).0

      more : (n : ℕ) (w : Vote) (b : Bool) → InVotes w (votes_on n es)
          → InVotes w (if b then v ∷ votes_on n es else votes_on n es)
      more n w true h = inr h
      more n w false h = h

      at : (n : ℕ) (w : Vote) → (part_of None (with_part c.votes m (Some v)) n ≡ Some w)
          ⊎ (InVotes w (votes_on n es) × (flag_of c.named n ≡ true))
          → (vote_of c n ≡ Some w) ⊎ (InVotes w (if nat_eq m n then v ∷ votes_on n es else votes_on n es)
          × (flag_of c.named n ≡ true))
      at n w (inr h) = inr (more n w (nat_eq m n) h.0, h.1)
      at n w (inl h) = elim (part-with c.votes m n (Some v) w h) [
        | inl old ↦ inl old
        | inr new ↦
            (let same : nat_eq m n ≡ true = eq-eqb m n (sym new.0) in
            let is : w ≡ v = (let z = new.1 in cc z) in
            inr (
              subst (λ (b : Bool). InVotes w (if b then v ∷ votes_on n es else votes_on n es)) (sym same) (inl is),
              subst (λ (i : ℕ). flag_of c.named i ≡ true) (sym new.0) flag,
            ))
      ]
  blamed (CancelAsked ∷ es) epoch c r low k q x y legal begins asked restarts e f = absurd (cc asked)
  blamed (Decide Commit ∷ es) epoch c r low k q x y legal begins asked restarts e f =
      absurd (f (successful r (by-decision s es epoch (record c { decision = Some Commit }) Commit r k refl legal.1
      begins.1 e)))
    where
      successful : (r : CampaignResult) → is_result_of (Some Commit) r ≡ true → r ≡ Successful
      successful r h = grind arith
  blamed (Decide (Abort cause) ∷ es) epoch c r low k q x y legal begins asked restarts e f =
      blame (first_no c) refl (subst (λ (b : Bool). is_cause (cause_of b (first_no c) c.restart) cause ≡ true) x
      (and_parts (is_undecided c) _ (allowed _ legal.0)).1)
    where
      no-cause : (cause : Cause) → is_cause None cause ≡ true → ⊥
      no-cause Cause.Cancel h = cc h
      no-cause (Cause.Vote n) h = cc h
      no-cause Cause.Restart h = cc h

      blame : (o : Option ℕ) → first_no c ≡ o → is_cause (cause_of false o c.restart) cause ≡ true
          → Blamed c (Decide (Abort cause) ∷ es)
      blame None g h = absurd (no-cause cause (subst (λ (b : Bool). is_cause (cause_of false None b) cause ≡ true) y h))
      blame (Some n) g h =
          let z = found-no c.votes 1 n g in
          let v = no-vote (slice_index_or c.votes z.0 None) z.2 in
          let w = z.1 in
          let is : n ≡ suc z.0 = omega (arith, w) in
          record {
            node = n;
            vote = v.0;
            is_no = v.2;
            there =
                inl (subst (λ (i : ℕ). vote_of c i ≡ Some v.0) (sym is) v.1);
          }
  blamed (EndedAt m o ∷ es) epoch c r low k q x y legal begins asked restarts e f =
      absurd (let a = (and_parts (is_none (end_of c m)) _ (and_parts (flag_of c.named m) _ (allowed _ legal.0)).1).1 in
      let no : is_new_of None o ≡ true = subst (λ (d : Option _). is_new_of d o ≡ true) q a in cc no)
  blamed (Enter z ∷ es) epoch c r low k q x y legal begins asked restarts e f =
      absurd (let a : is_result_of c.decision z ≡ true = (and_parts (all_ended c) _ (allowed _ legal.0)).1 in
      let no : is_result_of None z ≡ true = subst (λ (d : Option _). is_result_of d z ≡ true) q a in cc no)

  none-voted : (k n : ℕ) (named : NodeSet) → vote_of (begun k named) n ≡ None
  none-voted k zero named = refl
  none-voted k (suc n) named = nones 8 n

  -- a node whose vote is a no
  pub record HasNo (es : List MasterEvent) : Type 0 where
    pub node : ℕ
    pub vote : Vote
    pub is_no : is_yes vote ≡ false
    pub there : InVotes vote (votes_on node es)
    pub low : 1 ≤ node
    pub high : node ≤ 8
    pub named : packages_of s node ≢ []

  pub voted-no : (es : List MasterEvent) (epoch : ℕ) (r : CampaignResult)
      → IsLegalFrom (record { epoch = epoch; earlier = []; current = None }) es → AllByRecursion (BeginsSo s) es
      → has_asked es ≡ false → list_any is_restart es ≡ false → result_of es ≡ Some r → r ≢ Successful → HasNo es
  voted-no [] epoch r legal begins asked restarts e f = absurd (cc e)
  voted-no (Start z ∷ es) epoch r legal begins asked restarts e f =
      let h = voted-no es z r legal.1 begins.1 asked (or-parts (nat_le 2 z) (list_any is_restart es) restarts).1 e f in
      record {
        node = h.node;
        vote = h.vote;
        is_no = h.is_no;
        there = h.there;
        low = h.low;
        high = h.high;
        named =
            h.named;
      }
  voted-no (Begin k named ∷ es) epoch r legal begins asked restarts e f =
      let low = (and_parts (nat_le 1 epoch) _ (allowed _ legal.0)).0 in
      let h =
      blamed es epoch (begun k named) r (le-of epoch low) begins.0.0 refl refl refl legal.1 begins.1 asked restarts
      e f in
      from h
    where
      from : Blamed (begun k named) es → HasNo (Begin k named ∷ es)
      from h = elim h.there [
        | inl old ↦ absurd (let none = none-voted k h.node named in cc (none, old))
        | inr new ↦
            (let range = in-range named begins.0.1.0 h.node new.1 in
            record {
              node = h.node;
              vote = h.vote;
              is_no = h.is_no;
              there = new.0;
              low = range.0;
              high =
                  range.1;
              named = (begins.0.1.1 h.node range.0 range.1).0 new.1;
            })
      ]
  voted-no (_ ∷ es) epoch r legal begins asked restarts e f = absurd (cc legal.0)
