-- The parts of nodes: after one has changed, and where each flagged one passes a test.
use Rattle.world.proofs.Names.{in-contained}
use Rattle.world.proofs.Names.{arith, ◌≡◌, ◌≢◌, ◌⊎◌, inl, inr, ℕ, zero, suc, List, [], ◌∷◌, Bool, true, false, refl, ap}
use Rattle.world.proofs.Names.{Option, Some, None, slice_index_or, slice_set, and_parts, Outcome, Vote, part_of}
use Rattle.world.proofs.Names.{with_part, all_flagged, has_ended, voted_yes, ◌&&◌, ◌<◌, ◌≤◌, ◌++◌, nat_lt, sym, ◌∙◌}
use Rattle.world.proofs.Names.{subst, ltb-true, RolledBack, NodeSet, Decision, Commit, CampaignResult, Successful, Fold}
use Rattle.world.proofs.Names.{Current, flag_of, end_of, all_ended, is_result_of, all_below, begun, Finish, Synced}
use Rattle.world.proofs.Names.{Message, IsIn, last_status, EndEvidence}
use Rattle.world.proofs.Rules.{NodeRules, NodeLaws, NodeWorld, state_of, spans, EachEnded}
use Rattle.world.proofs.Invariant.{Executable, InPresent, NotCommit, IsFresh, KeptOld, Falling}
use Rattle.world.proofs.Events.{below-trans, end-sync-decided}

index-with : {A : Type 0} (xs : List (Option A)) (m n : ℕ) (v : Option A)
    → (n ≡ m) ⊎ (slice_index_or (slice_set xs m v) n None ≡ slice_index_or xs n None)
index-with (x ∷ xs) zero zero v = inl refl
index-with (x ∷ xs) (suc m) (suc n) v = elim (index-with xs m n v) [ inl e ↦ inl (ap suc e) | inr e ↦ inr e ]
index-with _ _ _ v = inr refl

-- another node's part is as before
pub part-other : {A : Type 0} (xs : List (Option A)) (m n : ℕ) (v : Option A) → n ≢ m
    → part_of None (with_part xs m v) n ≡ part_of None xs n
part-other xs x y v d = grind (arith, index-with)

-- what is there was there, or came now
pub part-with : {A : Type 0} (xs : List (Option A)) (m n : ℕ) (v : Option A) (y : A)
    → part_of None (with_part xs m v) n ≡ Some y → (part_of None xs n ≡ Some y) ⊎ ((n ≡ m) × (v ≡ Some y))
part-with xs zero n v y e = inl e
part-with xs (suc m) zero v y e = inl e
part-with {A} xs (suc m) (suc n) v y e = at xs m n e
  where
    at : (ys : List (Option A)) (i j : ℕ) → slice_index_or (slice_set ys i v) j None ≡ Some y
        → (slice_index_or ys j None ≡ Some y) ⊎ ((suc j ≡ suc i) × (v ≡ Some y))
    at (z ∷ zs) zero zero q = inr (refl, q)
    at (z ∷ zs) (suc i) (suc j) q = elim (at zs i j q) [ inl h ↦ inl h | inr h ↦ inr (ap suc h.0, h.1) ]
    at _ _ _ q = inl q

-- the part of each flagged node passes
pub flagged-each : {A : Type 0} (test : A → Bool) (d : A) (flags : List Bool) (parts : List A) (n : ℕ)
    → all_flagged test flags parts ≡ true → part_of false flags n ≡ true → test (part_of d parts n) ≡ true
flagged-each test d flags parts zero a q = absurd (cc)
flagged-each {A} test d flags parts (suc n) a q = at flags parts n a q
  where
    at : (fs : List Bool) (ps : List A) (i : ℕ) → all_flagged test fs ps ≡ true → slice_index_or fs i false ≡ true
        → test (slice_index_or ps i d) ≡ true
    at (true ∷ fs) (p ∷ ps) zero a q = (and_parts (test p) (all_flagged test fs ps) a).0
    at (true ∷ fs) (p ∷ ps) (suc i) a q = at fs ps i (and_parts (test p) (all_flagged test fs ps) a).1 q
    at (false ∷ fs) (p ∷ ps) (suc i) a q = at fs ps i a q
    at (false ∷ fs) [] (suc i) a q = at fs [] i a q
    at _ _ _ a q = absurd (cc)

pub flagged-ended : (flags : List Bool) (ended : List (Option Outcome)) (n : ℕ)
    → all_flagged has_ended flags ended ≡ true → part_of false flags n ≡ true → part_of None ended n ≡ None → ⊥
flagged-ended flags ended n a q e =
    let h = flagged-each has_ended None flags ended n a q in let z = ap has_ended e in cc

pub flagged-yes : (flags : List Bool) (votes : List (Option Vote)) (n : ℕ) → all_flagged voted_yes flags votes ≡ true
    → part_of false flags n ≡ true → part_of None votes n ≡ Some Vote.Yes
flagged-yes flags votes n a q = grind (arith, flagged-each)

-- What the records of the master keep of the invariant.
-- the same campaign as node n sees it
pub record SameAt (n : ℕ) (c d : Current) : Type 0 where
  pub campaign : d.campaign ≡ c.campaign
  pub named : flag_of d.named n ≡ flag_of c.named n
  pub ended : end_of d n ≡ end_of c n
  pub decision : d.decision ≡ c.decision

pub record SameFold (n : ℕ) (f g : Fold) : Type 0 where
  pub epoch : f.epoch ≤ g.epoch
  pub earlier : g.earlier ≡ f.earlier
  pub back : (d : Current) → g.current ≡ Some d → (c : Current) × (f.current ≡ Some c) × SameAt n c d
  pub forth : (c : Current) → f.current ≡ Some c → (d : Current) × (g.current ≡ Some d) × SameAt n c d

pub some-inj : (a b : Current) → Some a ≡ Some b → a ≡ b
some-inj a b e = cc e

pub none-some : (o : Option Current) (c : Current) → o ≡ None → o ≡ Some c → ⊥
none-some o c e h = cc (e, h)

pub in-append : (e : ℕ × CampaignResult) (xs : List (ℕ × CampaignResult)) (y : ℕ × CampaignResult)
    → IsIn e (xs ++ y ∷ []) → IsIn e xs ⊎ (e ≡ y)
in-append e [] y h = elim h [ inl q ↦ inr q | inr q ↦ absurd q ]
in-append e (x ∷ xs) y h =
    elim h [ inl q ↦ inl (inl q) | inr q ↦ (elim (in-append e xs y q) [ inl p ↦ inl (inr p) | inr p ↦ inr p ]) ]

below-append : (k : ℕ) (xs : List (ℕ × CampaignResult)) (y : ℕ × CampaignResult) → all_below k (xs ++ y ∷ []) ≡ true
    → (all_below k xs ≡ true) × (y.0 < k)
below-append k [] y h = (refl, ltb-true y.0 k (and_parts (nat_lt y.0 k) true h).0)
below-append k (x ∷ xs) y h =
    let q = and_parts (nat_lt x.0 k) (all_below k (xs ++ y ∷ [])) h in
    let r = below-append k xs y q.1 in
    (subst (λ b. (b && all_below k xs) ≡ true) (sym q.0) r.0, r.1)

not-commit : (o : Option Decision) (r : CampaignResult) → is_result_of o r ≡ true → r ≢ Successful → o ≢ Some Commit
not-commit o r h q e = grind arith

pub below-in : (k : ℕ) (xs : List (ℕ × CampaignResult)) (j : ℕ) (r : CampaignResult) → all_below k xs ≡ true
    → IsIn (j, r) xs → j < k
below-in k [] j r a h = absurd h
below-in k (x ∷ xs) j r a h =
    let q = and_parts (nat_lt x.0 k) (all_below k xs) a in
    elim h [
      | inl e ↦ subst (λ y. y < k) (sym (ap (λ y. y.0) e)) (ltb-true x.0 k q.0)
      | inr h' ↦ below-in k xs j r q.1 h'
    ]

module _ (N : NodeRules) (laws : NodeLaws N) (n : ℕ) where
  pub forget : (f : Fold) (x : NodeWorld N) → KeptOld N f n x
      → KeptOld N f n (record { moves = x.moves; sent = x.sent; told = [] })
  forget f x kept = grind arith

  pub present-forth : (f g : Fold) → SameFold n f g → (P : ℕ → Type 0) → InPresent f n (λ c. P c.campaign)
      → InPresent g n (λ c. P c.campaign)
  present-forth f g same P h = grind arith

  fresh-back : (f g : Fold) → SameFold n f g → (k : ℕ) → IsFresh g k → IsFresh f k
  fresh-back f g same k h = grind arith

  -- Start, PhaseTo, VoteOf and CancelAsked
  pub event-same : (f g : Fold) (x : NodeWorld N) → SameFold n f g → (g.epoch ≡ f.epoch) ⊎ (x.told ≡ [])
      → KeptOld N f n x → KeptOld N g n x
  event-same f g x same quiet kept =
      record {
        falling = kept.falling;
        epochs =
            λ m h. let a : m.at.epoch ≤ f.epoch = kept.epochs m h in let b : f.epoch ≤ g.epoch = same.epoch in
            omega arith;
        tags = kept.tags;
        early = kept.early;
        decided =
            λ m h d c current q e. let b = same.back c current in
            kept.decided m h d b.0 b.1 (q ∙ b.2.campaign) (sym b.2.decision ∙ e);
        ordered = kept.ordered;
        begun = λ m h k fresh. kept.begun m h k (fresh-back f g same k fresh);
        present = λ m h exec. present-forth f g same (λ k. m.campaign ≡ k) (kept.present m h exec);
        told_sent = kept.told_sent;
        told_none =
            λ m y told d c current campaign free. let b = same.back c current in
            kept.told_none m y told d b.0 b.1 (campaign ∙ b.2.campaign) free;
        told_rolled = λ c current e.
            let b = same.back c current in
            elim quiet [
              | inl q ↦ kept.told_rolled b.0 b.1
                  (subst (λ k. last_status k f.epoch x.told ≡ Some RolledBack) b.2.campaign
                  (subst (λ k. last_status c.campaign k x.told ≡ Some RolledBack) q e))
              | inr q ↦ absurd (let e' : last_status c.campaign g.epoch []
                  ≡ Some RolledBack = subst (λ t. last_status c.campaign g.epoch t ≡ Some RolledBack) q e in cc e')
            ];
        kept_holds = kept.kept_holds;
        finish =
            λ c cause current abort. let b = same.back c current in
            kept.finish b.0 cause b.1 (sym b.2.decision ∙ abort);
        ends_old = λ c current d. let b = same.back c current in kept.ends_old b.0 b.1 (λ q. d (b.2.decision ∙ q));
        session = λ tag e. present-forth f g same (λ k. tag ≡ k) (kept.session tag e);
        open_span = kept.open_span;
        old_so_far = λ c current d. grind (arith, spans);
        fresh = λ k h. kept.fresh k (fresh-back f g same k h);
        entered = λ k r h q. kept.entered k r (subst (λ l. IsIn (k, r) l) same.earlier h) q;
      }

  -- Begin: nothing is current, so nothing is executable and there is no session
  pub event-begin : (f : Fold) (x : NodeWorld N) (k : ℕ) (named : NodeSet) → f.current ≡ None
      → all_below k f.earlier ≡ true → KeptOld N f n x
      → KeptOld N (record { epoch = f.epoch; earlier = f.earlier; current = Some (begun k named) }) n
      (record { moves = x.moves; sent = x.sent; told = [] })
  event-begin f x k named no_current below kept =
      record {
        falling = kept.falling;
        epochs = kept.epochs;
        tags = kept.tags;
        early = kept.early;
        decided =
            λ m h d c current q e. kept.begun m h k is_fresh (q
            ∙ sym (ap (λ y. y.campaign) (some-inj (begun k named) c current)));
        ordered = kept.ordered;
        begun = λ m h j fresh. kept.begun m h j (back j fresh.above);
        present = λ m h exec. absurd (quiet m h exec);
        told_sent = λ m r told. absurd told;
        told_none = λ m y told d c current campaign free. absurd told;
        told_rolled = λ c current e. absurd (cc e);
        kept_holds = kept.kept_holds;
        finish = λ c cause current abort m h call exec. absurd (quiet m h exec);
        ends_old = λ c current d tag mine status. absurd (free tag mine);
        session = λ tag mine. absurd (free tag mine);
        open_span = kept.open_span;
        old_so_far = λ c current d. grind (arith, some-inj, spans);
        fresh = λ j h. kept.fresh j (back j h.above);
        entered = kept.entered;
      }
    where
      is_fresh : IsFresh f k
      is_fresh = record { above = below; other = λ c current q. none-some f.current c no_current current }

      back : (j : ℕ) → all_below j f.earlier ≡ true → IsFresh f j
      back j h = record { above = h; other = λ c current q. none-some f.current c no_current current }

      quiet : (m : Message) → IsIn m x.sent → Executable N (state_of N x) m → ⊥
      quiet m h exec = let p = kept.present m h exec in none-some f.current p.0 no_current p.1

      free : (tag : ℕ) → N.mine (state_of N x) ≡ Some tag → ⊥
      free tag e = let p = kept.session tag e in none-some f.current p.0 no_current p.1

  -- the decision
  pub event-decide : (f : Fold) (x : NodeWorld N) (c : Current) (d : Decision) → f.current ≡ Some c → c.decision ≡ None
      → KeptOld N f n x
      → KeptOld N (record { epoch = f.epoch; earlier = f.earlier; current = Some (record c { decision = Some d }) }) n x
  event-decide f x c d current undecided kept =
      record {
        falling = kept.falling;
        epochs = kept.epochs;
        tags = kept.tags;
        early = kept.early;
        decided = λ m h q c' current' same e. grind (arith, some-inj);
        ordered = kept.ordered;
        begun = λ m h k fresh. kept.begun m h k (back k fresh);
        present = λ m h exec. forth (λ k. m.campaign ≡ k) (kept.present m h exec);
        told_sent = kept.told_sent;
        told_none =
            λ m y told q c' current' campaign free. kept.told_none m y told q c current (campaign
            ∙ campaign_is c' current') free;
        told_rolled =
            λ c' current' e. kept.told_rolled c current
            (subst (λ k. last_status k f.epoch x.told ≡ Some RolledBack) (campaign_is c' current') e);
        kept_holds = kept.kept_holds;
        finish = λ c' cause current' abort m h call exec. absurd (no_finish m h call exec);
        ends_old = λ c' current' q. kept.ends_old c current not_commit;
        session = λ tag e. forth (λ k. tag ≡ k) (kept.session tag e);
        open_span = kept.open_span;
        old_so_far =
            λ c' current' q. subst (λ k. EachEnded N (λ y. N.Leaves y.before y.left) (spans N k x.moves).ended)
            (sym (campaign_is c' current')) (kept.old_so_far c current not_commit);
        fresh = λ k h. kept.fresh k (back k h);
        entered = kept.entered;
      }
    where
      campaign_is : (c' : Current) → Some (record c { decision = Some d }) ≡ Some c' → c'.campaign ≡ c.campaign
      campaign_is c' e = sym (ap (λ y. y.campaign) (some-inj (record c { decision = Some d }) c' e))

      not_commit : NotCommit c.decision
      not_commit q = cc (q, undecided)

      back : (k : ℕ)
          → IsFresh (record { epoch = f.epoch; earlier = f.earlier; current = Some (record c { decision = Some d }) }) k
          → IsFresh f k
      back k h =
          record {
            above = h.above;
            other = λ c' current' q. h.other (record c { decision = Some d }) refl
                (ap (λ y. y.campaign) (some-inj c c' (sym current ∙ current')) ∙ q);
          }

      forth : (P : ℕ → Type 0) → InPresent f n (λ y. P y.campaign)
          → InPresent (record { epoch = f.epoch; earlier = f.earlier; current = Some (record c { decision = Some d }) })
          n (λ y. P y.campaign)
      forth P h = grind arith

      no_finish : (m : Message) → IsIn m x.sent → m.call ≡ Finish → Executable N (state_of N x) m → ⊥
      no_finish m h call exec = go m.decided refl
        where
          go : (b : Bool) → m.decided ≡ b → ⊥
          go false q = kept.early m h q call
          go true q =
              let p = kept.present m h exec in
              let e : p.0 ≡ c = some-inj p.0 c (sym p.1 ∙ current) in
              kept.decided m h q c current (p.4 ∙ ap (λ y. y.campaign) e) undecided

  -- an end of this node, with its evidence
  pub event-ended : (f g : Fold) (x : NodeWorld N) (c d : Current) → f.current ≡ Some c → g.current ≡ Some d
      → g.epoch ≡ f.epoch → g.earlier ≡ f.earlier → d.campaign ≡ c.campaign → d.decision ≡ c.decision
      → EndEvidence f.epoch c x.told x.sent → KeptOld N f n x → KeptOld N g n x
  event-ended f g x c d current current_g epoch earlier campaign decision evidence kept =
      record {
        falling = kept.falling;
        epochs = λ m h. let a : m.at.epoch ≤ f.epoch = kept.epochs m h in omega (arith, epoch);
        tags = kept.tags;
        early = kept.early;
        decided =
            λ m h q c' current' same e. kept.decided m h q c current (same ∙ campaign_is c' current')
            (sym (decision_is c' current') ∙ e);
        ordered = kept.ordered;
        begun = λ m h k fresh. kept.begun m h k (back k fresh);
        present = λ m h exec. absurd (none_left m h exec);
        told_sent = kept.told_sent;
        told_none =
            λ m y told q c' current' same free. kept.told_none m y told q c current (same ∙ campaign_is c' current')
            free;
        told_rolled = λ c' current' e.
            kept.told_rolled c current
            (subst (λ k. last_status k f.epoch x.told ≡ Some RolledBack) (campaign_is c' current')
            (subst (λ k. last_status c'.campaign k x.told ≡ Some RolledBack) epoch e));
        kept_holds = kept.kept_holds;
        finish = λ c' cause current' abort m h call exec. absurd (none_left m h exec);
        ends_old = λ c' current' q. kept.ends_old c current (λ z. q (decision_is c' current' ∙ z));
        session = λ tag e. absurd (cc (free, e));
        open_span = kept.open_span;
        old_so_far =
            λ c' current' q. subst (λ k. EachEnded N (λ y. N.Leaves y.before y.left) (spans N k x.moves).ended)
            (sym (campaign_is c' current')) (kept.old_so_far c current (λ z. q (decision_is c' current' ∙ z)));
        fresh = λ k h. kept.fresh k (back k h);
        entered = λ k r h q. kept.entered k r (subst (λ l. IsIn (k, r) l) earlier h) q;
      }
    where
      same_d : (c' : Current) → g.current ≡ Some c' → c' ≡ d
      same_d c' e = some-inj c' d (sym e ∙ current_g)

      campaign_is : (c' : Current) → g.current ≡ Some c' → c'.campaign ≡ c.campaign
      campaign_is c' e = ap (λ y. y.campaign) (same_d c' e) ∙ campaign

      decision_is : (c' : Current) → g.current ≡ Some c' → c'.decision ≡ c.decision
      decision_is c' e = ap (λ y. y.decision) (same_d c' e) ∙ decision

      back : (k : ℕ) → IsFresh g k → IsFresh f k
      back k h =
          record {
            above = subst (λ l. all_below k l ≡ true)
                earlier h.above;
            other = λ c' current' q. h.other d current_g (campaign
                ∙ (ap (λ y. y.campaign) (some-inj c c' (sym current ∙ current')) ∙ q));
          }

      none_of : (sent : List Message) → Falling sent → EndEvidence f.epoch c x.told sent
          → ((m : Message) → IsIn m sent → IsIn m x.sent) → (m : Message) → IsIn m sent → Executable N (state_of N x) m
          → ⊥
      none_of [] falling e into m h exec = absurd h
      none_of (newest ∷ older) falling e into m h exec =
          let last = (kept.told_sent newest (Synced e.1) (in-contained _ _ e.2)).1 in
          elim h [
            | inl q ↦ last (subst (λ y. Executable N (state_of N x) y) q exec)
            | inr h' ↦ last
                (below-trans (N.last (state_of N x)) m.at newest.at exec (falling.0 m h'))
          ]

      none_left : (m : Message) → IsIn m x.sent → Executable N (state_of N x) m → ⊥
      none_left = none_of x.sent kept.falling evidence (λ m h. h)

      free_of : (sent : List Message) → EndEvidence f.epoch c x.told sent → N.mine (state_of N x) ≡ None
      free_of [] e = absurd e
      free_of (newest ∷ older) e =
          let q = end-sync-decided c.campaign f.epoch newest e.0 in
          kept.told_none newest e.1 (in-contained _ _ e.2) q.0 c current q.1 e.3

      free : N.mine (state_of N x) ≡ None
      free = free_of x.sent evidence

  -- Enter: all named nodes have ended
  pub event-enter : (f : Fold) (x : NodeWorld N) (c : Current) (r : CampaignResult) → f.current ≡ Some c
      → all_ended c ≡ true → is_result_of c.decision r ≡ true → KeptOld N f n x
      → KeptOld N (record { epoch = f.epoch; earlier = f.earlier ++ (c.campaign, r) ∷ []; current = None }) n x
  event-enter f x c r current ended result kept =
      record {
        falling = kept.falling;
        epochs = kept.epochs;
        tags = kept.tags;
        early = kept.early;
        decided = λ m h q c' current' same e. (cc current');
        ordered = kept.ordered;
        begun = λ m h k fresh. kept.begun m h k (back k fresh.above);
        present = λ m h exec. absurd (out (λ k. m.campaign ≡ k) (kept.present m h exec));
        told_sent = kept.told_sent;
        told_none = λ m y told q c' current' same free. absurd (cc current');
        told_rolled = λ c' current' e. absurd (cc current');
        kept_holds = kept.kept_holds;
        finish = λ c' cause current' abort m h call exec. absurd (cc current');
        ends_old = λ c' current' q. absurd (cc current');
        session = λ tag e. absurd (out (λ k. tag ≡ k) (kept.session tag e));
        open_span = kept.open_span;
        old_so_far = λ c' current' q. absurd (cc current');
        fresh = λ k h. kept.fresh k (back k h.above);
        entered = λ k res h q.
            elim (in-append (k, res) f.earlier (c.campaign, r) h) [
              | inl old ↦ kept.entered k res old q
              | inr e ↦
                  (let k_is : k ≡ c.campaign = ap (λ y. y.0) e in
                  let r_is : res ≡ r = ap (λ y. y.1) e in
                  subst (λ j. EachEnded N (λ y. N.Leaves y.before y.left) (spans N j x.moves).ended) (sym k_is)
                  (kept.old_so_far c current (not-commit c.decision r result (λ s. q (r_is ∙ s)))))
            ];
      }
    where
      out : (P : ℕ → Type 0) → InPresent f n (λ y. P y.campaign) → ⊥
      out P h = grind (arith, flagged-ended)

      back : (k : ℕ) → all_below k (f.earlier ++ (c.campaign, r) ∷ []) ≡ true → IsFresh f k
      back k h = grind (arith, below-append, some-inj)
