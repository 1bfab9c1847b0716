-- Before the decision: what each event at a node keeps.
use Rattle.world.proofs.Names.{in-contained}
use Rattle.world.proofs.Names.{and_parts, ◌≡◌, ◌≢◌, ◌⊎◌, inl, inr, ◌&&◌, ◌||◌, not, ℕ, List, [], ◌∷◌, Option, Some}
use Rattle.world.proofs.Names.{None, Bool, true, false, is_some, nat_eq, refl, sym, ◌∙◌, ap, subst, arith, eqb-true}
use Rattle.world.proofs.Names.{eq-eqb, Status, Activated, NodeSet, Vote, Fold, Current, flag_of, vote_of, all_yes}
use Rattle.world.proofs.Names.{all_below, begun, Call, Reply, Sync, IsBelow, is_status, Message, Told, Answered, Showed}
use Rattle.world.proofs.Names.{IsIn, is_sync, is_told, Over, Packages, is_end_sync, activate_done}
use Rattle.world.proofs.Names.{showed_after_activate, may_follow, MaySend, MaySendBy, MaySendEarly, next_number}
use Rattle.world.proofs.Names.{EndEvidence}
use Rattle.world.proofs.Records.{flagged-yes, some-inj, none-some}
use Rattle.world.proofs.Rules.{NodeRules, NodeLaws, Delivered, Foreign, Unit_done, NodeWorld, state_of, spans}
use Rattle.world.proofs.Invariant.{Executable, InPresent, IsFresh, KeptOld, Falling}
use Rattle.world.proofs.EarlyFacts.{ClientEntry, with_entry, round_entries, stage_after, IsAt, Activates}
use Rattle.world.proofs.EarlyFacts.{EarlyAt, KeptEarly, KeptLive}
use Rattle.node_laws.proofs.NameLists.{or-right}
use Rattle.world.proofs.Events.{below-trans, span-ended, is-cleaning, open-mine}
use Rattle.world.proofs.Sends.{next-above, next-epoch}
use Rattle.world.proofs.Committed.{IsReadyToCommit}
use Rattle.world.proofs.EarlyNode.{judged-cases, is-next, over-none, showed-done, all-answered, early-judged}
use Rattle.world.proofs.EarlyNode.{early-foreign, early-unit, early-answered, early-showed, early-sent}

pub in-current : (f : Fold) (n : ℕ) (k : ℕ) (c : Current) → f.current ≡ Some c → InPresent f n (λ y. k ≡ y.campaign)
    → k ≡ c.campaign
in-current f n k c current h = h.4 ∙ ap (λ y. y.campaign) (some-inj h.0 c (sym h.1 ∙ current))

sync-is : (call : Call) → is_sync call ≡ true → call ≡ Sync
sync-is x e = grind arith

-- what the message before a new one of an undecided campaign is
told-before : (a b d e g : Bool) → a ≡ true → d ≡ true → g ≡ false → (not a || (b || (not d || (e && g)))) ≡ true
    → b ≡ true
told-before a true d e g p q r h = refl
told-before a false d e g p q r h = grind arith

module _ (N : NodeRules) (laws : NodeLaws N) (packages : Packages) (numbers : List ℕ) where
  module _ (n : ℕ) where
    -- the last number is below the next
    pub next-exec : (f : Fold) (x : NodeWorld N) → KeptOld N f n x → KeptLive N f n x
        → IsBelow (N.last (state_of N x)) (next_number f.epoch x.sent)
    next-exec f x old live = grind (arith, next-above, nat_eq)

    -- what always holds
    pub live-deliver : (f : Fold) (x : NodeWorld N) (m : Message) → IsIn m x.sent → KeptOld N f n x → KeptLive N f n x
        → KeptLive N f n (record { moves = Delivered m ∷ x.moves; sent = x.sent; told = x.told })
    live-deliver f x m sent old live =
        let h = judged-cases N laws (state_of N x) m P (live.last_sent, live.live, live.entry_sent) there in
        record { last_sent = h.0; live = h.1; entry_sent = h.2 }
      where
        P : N.State → Option Reply → Type 0
        P t o = ((N.last t ≡ record { epoch = 0; number = 0 }) ⊎ ((y : Message) × IsIn y x.sent × (y.at ≡ N.last t)))
            × ((y : Message) → IsIn y x.sent → y.call ≢ Sync → (IsBelow (N.last t) y.at) ⊎ (y.at ≡ N.last t)
            → InPresent f n (λ c. y.campaign ≡ c.campaign))
            × ((k : ℕ) (e : ClientEntry)
            → IsIn e (with_entry o (nat_eq m.campaign k && not m.decided) m (round_entries N k x.moves))
            → IsIn e.message x.sent × (e.message.campaign ≡ k))

        there : Executable N (state_of N x) m
            → P (N.keep (N.judge (state_of N x) m.call).0 m.at m.call (N.judge (state_of N x) m.call).1)
            (Some (N.judge (state_of N x) m.call).1)
        there exec =
            let judged = N.judge (state_of N x) m.call in
            let last = laws.keep_last judged.0 m.at m.call judged.1 in (
              inr (m, sent, sym last),
              λ y h not_sync from.
                  old.present y h (elim from [
                    | inl b ↦ below-trans (N.last (state_of N x)) m.at y.at exec (subst (λ l. IsBelow l y.at) last b)
                    | inr e ↦ subst (λ l. IsBelow (N.last (state_of N x)) l) (sym (e ∙ last)) exec
                  ]),
              λ k e h. entry k e (nat_eq m.campaign k) (not m.decided) refl h,
            )
          where
            entry : (k : ℕ) (e : ClientEntry) (a b : Bool) → nat_eq m.campaign k ≡ a
                → IsIn e (with_entry (Some (N.judge (state_of N x) m.call).1) (a && b) m (round_entries N k x.moves))
                → IsIn e.message x.sent × (e.message.campaign ≡ k)
            entry k e true true p h =
                elim h [
                  | inl q ↦ (
                    subst (λ y. IsIn y x.sent) (sym (ap (λ z. z.message) q)) sent,
                    ap (λ z. z.message.campaign) q ∙ eqb-true m.campaign k p,
                  )
                  | inr h' ↦ live.entry_sent k e h'
                ]
            entry k e _ _ p h = live.entry_sent k e h

    pub live-foreign : (f : Fold) (x : NodeWorld N) (call : N.ForeignCall) → KeptLive N f n x
        → KeptLive N f n (record { moves = Foreign call ∷ x.moves; sent = x.sent; told = x.told })
    live-foreign f x call live = grind arith

    pub live-unit : (f : Fold) (x : NodeWorld N) (passed : Bool) → KeptLive N f n x
        → KeptLive N f n (record { moves = Unit_done passed ∷ x.moves; sent = x.sent; told = x.told })
    live-unit f x passed live = grind arith

    pub live-told : (f : Fold) (x : NodeWorld N) (told : List Told) → KeptLive N f n x
        → KeptLive N f n (record { moves = x.moves; sent = x.sent; told = told })
    live-told f x told live = record { last_sent = live.last_sent; live = live.live; entry_sent = live.entry_sent }

    pub live-send : (f : Fold) (x : NodeWorld N) (m : Message) → IsBelow (N.last (state_of N x)) m.at
        → KeptOld N f n (record { moves = x.moves; sent = m ∷ x.sent; told = x.told }) → KeptLive N f n x
        → KeptLive N f n (record { moves = x.moves; sent = m ∷ x.sent; told = x.told })
    live-send f x m exec old live =
        record {
          last_sent = elim live.last_sent [ inl e ↦ inl e | inr h ↦ inr (h.0, inr h.1, h.2) ];
          live = λ y h not_sync from. grind (arith, state_of);
          entry_sent = λ k e h. let q = live.entry_sent k e h in (inr q.0, q.1);
        }

    pub live-fold : (f g : Fold) (x : NodeWorld N)
        → ((k : ℕ) → InPresent f n (λ c. k ≡ c.campaign) → InPresent g n (λ c. k ≡ c.campaign)) → KeptLive N f n x
        → KeptLive N g n x
    live-fold f g x goes live =
        record {
          last_sent = live.last_sent;
          live = λ y h not_sync from. goes y.campaign
              (live.live y h not_sync from);
          entry_sent = live.entry_sent;
        }

    -- the end of this node: its newest message is a Sync and was answered
    pub live-ended : (f g : Fold) (x : NodeWorld N) (c : Current) → EndEvidence f.epoch c x.told x.sent
        → KeptOld N f n x → KeptLive N f n x → KeptLive N g n x
    live-ended f g x c evidence old live =
        record {
          last_sent = live.last_sent;
          live = λ y h not_sync from. absurd
              (go x.sent evidence old.falling (λ m r t. (old.told_sent m r t).1) y h not_sync from);
          entry_sent =
              live.entry_sent;
        }
      where
        is-sync : (m : Message) → is_end_sync c.campaign f.epoch m ≡ true → m.call ≡ Sync
        is-sync m e =
            sync-is m.call
            (and_parts (is_sync m.call) (m.decided && (nat_eq m.campaign c.campaign && nat_eq m.at.epoch f.epoch)) e).0

        go : (sent : List Message) → EndEvidence f.epoch c x.told sent → Falling sent
            → ((m : Message) (r : Reply) → IsIn (Answered m r) x.told → IsBelow (N.last (state_of N x)) m.at → ⊥)
            → (y : Message) → IsIn y sent → y.call ≢ Sync
            → (IsBelow (N.last (state_of N x)) y.at) ⊎ (y.at ≡ N.last (state_of N x)) → ⊥
        go [] e falling known y h not_sync from = h
        go (m ∷ ms) e falling known y h not_sync from =
            elim h [
              | inl q ↦ not_sync (ap (λ z. z.call) q ∙ is-sync m e.0)
              | inr h' ↦
                  (let below = falling.0 y h' in
                  elim from [
                    | inl b ↦ known m _ (in-contained _ _ e.2) (below-trans (N.last (state_of N x)) y.at m.at b below)
                    | inr b ↦ known m _ (in-contained _ _ e.2) (subst (λ z. IsBelow z m.at) b below)
                  ])
            ]

    -- before the decision
    pub early-deliver : (f : Fold) (x : NodeWorld N) (m : Message) → IsIn m x.sent → KeptOld N f n x
        → KeptEarly N packages f n x
        → KeptEarly N packages f n (record { moves = Delivered m ∷ x.moves; sent = x.sent; told = x.told })
    early-deliver f x m sent old early =
        record {
          at = λ c current undecided quiet.
              let h = early.at c current undecided quiet in
              judged-cases N laws (state_of N x) m
              (λ t o. EarlyAt N f.epoch c.campaign (packages c.campaign n) t
              (with_entry o (nat_eq m.campaign c.campaign && not m.decided) m (round_entries N c.campaign x.moves))
              (spans N c.campaign x.moves).ended x.sent x.told) h
              (λ exec.
              early-judged N laws f.epoch c.campaign (packages c.campaign n) (state_of N x)
              (round_entries N c.campaign x.moves) (spans N c.campaign x.moves).ended x.sent x.told
              (λ y r t. (old.told_sent y r t).1) m sent
              (in-current f n m.campaign c current (old.present m sent exec)) exec h);
          yes = early.yes;
        }

    pub early-foreign-event : (f : Fold) (x : NodeWorld N) (call : N.ForeignCall) → KeptEarly N packages f n x
        → KeptEarly N packages f n (record { moves = Foreign call ∷ x.moves; sent = x.sent; told = x.told })
    early-foreign-event f x call early =
        record {
          at = λ c current undecided quiet.
              early-foreign N laws f.epoch c.campaign (packages c.campaign n) (state_of N x) call
              (round_entries N c.campaign x.moves) (spans N c.campaign x.moves).ended x.sent x.told
              (early.at c current undecided quiet);
          yes = early.yes;
        }

    pub early-unit-event : (f : Fold) (x : NodeWorld N) (passed : Bool) → KeptOld N f n x → KeptEarly N packages f n x
        → KeptEarly N packages f n (record { moves = Unit_done passed ∷ x.moves; sent = x.sent; told = x.told })
    early-unit-event f x passed old early =
        record {
          at = λ c current undecided quiet.
              early-unit N laws f.epoch c.campaign (packages c.campaign n) (state_of N x) passed
              (round_entries N c.campaign x.moves) (spans N c.campaign x.moves).ended
              (spans N c.campaign (Unit_done passed ∷ x.moves)).ended x.sent x.told (stays c)
              (early.at c current undecided quiet);
          yes = early.yes;
        }
      where
        stays : (c : Current)
            → IsAt N (state_of N x) c.campaign (packages c.campaign n)
            (stage_after (packages c.campaign n) (round_entries N c.campaign x.moves))
            → (spans N c.campaign x.moves).ended ≡ [] → (spans N c.campaign (Unit_done passed ∷ x.moves)).ended ≡ []
        stays c at none =
            grind (arith, span-ended, spans, is_status, state_of, stage_after, round_entries, is-cleaning)

    pub early-answered-event : (f : Fold) (x : NodeWorld N) (m : Message) (r : Reply) → IsIn m x.sent
        → m.at ≡ N.last (state_of N x) → N.kept (state_of N x) ≡ r → KeptLive N f n x → KeptEarly N packages f n x
        → KeptEarly N packages f n (record { moves = x.moves; sent = x.sent; told = Answered m r ∷ x.told })
    early-answered-event f x m r sent at kept live early =
        record {
          at = λ c current undecided quiet.
              early-answered N laws f.epoch c.campaign (packages c.campaign n) (state_of N x)
              (round_entries N c.campaign x.moves) (spans N c.campaign x.moves).ended x.sent x.told m r sent at kept
              (λ not_sync. in-current f n m.campaign c current (live.live m sent not_sync (inr at)))
              (early.at c current undecided quiet);
          yes = early.yes;
        }

    pub early-showed-event : (f : Fold) (x : NodeWorld N) (s : Status) → N.status (state_of N x) ≡ s
        → KeptEarly N packages f n x
        → KeptEarly N packages f n (record { moves = x.moves; sent = x.sent; told = Showed s ∷ x.told })
    early-showed-event f x s status early =
        record {
          at = λ c current undecided quiet.
              early-showed N laws f.epoch c.campaign (packages c.campaign n) (state_of N x)
              (round_entries N c.campaign x.moves) (spans N c.campaign x.moves).ended x.sent x.told s status
              (early.at c current undecided quiet);
          yes =
              λ c current undecided quiet voted. or-right (is_status s Activated && activate_done x.told)
              (showed_after_activate Activated x.told) (early.yes c current undecided quiet voted);
        }

    pub early-send : (f : Fold) (x : NodeWorld N) (c : Current) (call : Call) → f.current ≡ Some c
        → MaySend packages f.epoch n c x.told x.sent call → KeptOld N f n x → KeptLive N f n x
        → KeptEarly N packages f n x
        → KeptEarly N packages f n
        (record {
          moves = x.moves;
          sent = record
              { at = next_number f.epoch x.sent; call = call; campaign = c.campaign; decided = is_some c.decision }
              ∷ x.sent;
          told = x.told;
        })
    early-send f x c call current may old live early =
        grind (arith, here, some-inj, state_of, round_entries, spans, next_number, is_some)
      where
        here : c.decision ≡ None → c.restart ≡ false
            → EarlyAt N f.epoch c.campaign (packages c.campaign n) (state_of N x) (round_entries N c.campaign x.moves)
            (spans N c.campaign x.moves).ended
            (record {
              at = next_number f.epoch x.sent;
              call = call;
              campaign = c.campaign;
              decided = is_some c.decision;
            } ∷ x.sent) x.told
        here undecided quiet =
            let h = early.at c current undecided quiet in
            let by : MaySendEarly packages n c x.told x.sent call = subst
            (λ o. MaySendBy packages f.epoch n c o x.told x.sent call) undecided may.by in
            early-sent N laws f.epoch c.campaign (packages c.campaign n) (state_of N x)
            (round_entries N c.campaign x.moves) (spans N c.campaign x.moves).ended x.sent x.told
            (record {
              at = next_number f.epoch x.sent;
              call = call;
              campaign = c.campaign;
              decided = is_some c.decision;
            }) refl (ap is_some undecided) (next-epoch f.epoch x.sent) (next-exec f x old live) by.next
            (all-answered N laws f.epoch c.campaign (packages c.campaign n) (state_of N x)
            (round_entries N c.campaign x.moves) (spans N c.campaign x.moves).ended x.sent x.told
            (λ y r t. (old.told_sent y r t).1)
            (newest undecided h.epochs) h) h
          where
            newest : c.decision ≡ None
                → ((m : Message) → IsIn m x.sent → m.campaign ≡ c.campaign → m.at.epoch ≡ f.epoch)
                → (m : Message) (ms : List Message) → x.sent ≡ m ∷ ms → m.campaign ≡ c.campaign
                → is_told x.told m.at ≡ true
            newest undecided' epochs m ms e campaign =
                let follows : may_follow f.epoch c x.told (m ∷ ms)
                ≡ true = subst (λ l. may_follow f.epoch c x.told l ≡ true) e may.follows in
                told-before (nat_eq m.at.epoch f.epoch) (is_told x.told m.at) (nat_eq m.campaign c.campaign)
                (not m.decided) (is_some c.decision)
                (eq-eqb m.at.epoch f.epoch (epochs m (subst (λ l. IsIn m l) (sym e) (inl refl)) campaign))
                (eq-eqb m.campaign c.campaign campaign) (ap is_some undecided') follows

    -- the records
    pub early-fold : (f g : Fold) (x : NodeWorld N) → g.epoch ≡ f.epoch
        → ((d : Current) → g.current ≡ Some d
        → (c : Current) × (f.current ≡ Some c) × (d.campaign ≡ c.campaign) × (d.decision ≡ c.decision)
        × (d.restart ≡ c.restart)
        × (vote_of d n ≡ Some Vote.Yes
        → (vote_of c n ≡ Some Vote.Yes) ⊎ (showed_after_activate Activated x.told ≡ true))) → KeptEarly N packages f n x
        → KeptEarly N packages g n x
    early-fold f g x epoch back early = grind arith

    pub early-no : (g : Fold) (x : NodeWorld N)
        → ((d : Current) → g.current ≡ Some d → d.decision ≡ None → d.restart ≡ false → ⊥) → KeptEarly N packages g n x
    early-no g x never =
        record {
          at = λ d current undecided quiet. absurd
              (never d current undecided quiet);
          yes = λ d current undecided quiet. absurd (never d current undecided quiet);
        }

    pub no-entries : (k : ℕ) (x : NodeWorld N) → ((e : ClientEntry) → IsIn e (round_entries N k x.moves) → ⊥)
        → round_entries N k x.moves ≡ []
    no-entries k x = go (round_entries N k x.moves)
      where
        go : (es : List ClientEntry) → ((e : ClientEntry) → IsIn e es → ⊥) → es ≡ []
        go [] never = refl
        go (e ∷ es) never = absurd (never e (inl refl))

    pub early-begin : (f : Fold) (x : NodeWorld N) (k : ℕ) (named : NodeSet) → f.current ≡ None
        → all_below k f.earlier ≡ true → KeptOld N f n x → KeptLive N f n x
        → KeptEarly N packages (record { epoch = f.epoch; earlier = f.earlier; current = Some (begun k named) }) n
        (record { moves = x.moves; sent = x.sent; told = [] })
    early-begin f x k named none below old live =
        record {
          at = λ c current undecided quiet.
              let same = some-inj (begun k named) c current in
              subst (λ y. EarlyAt N f.epoch y.campaign (packages y.campaign n) (state_of N x)
              (round_entries N y.campaign x.moves) (spans N y.campaign x.moves).ended x.sent []) same
              (subst (λ es. EarlyAt N f.epoch k (packages k n) (state_of N x) es (spans N k x.moves).ended x.sent [])
              (sym entries)
              (record {
                epochs = λ m h c'. absurd (fresh m h c');
                follows = tt;
                sends = inl (fresh, tt);
                last = λ e h. absurd h;
                told_entry = λ e h. absurd h;
                is_on = inr (free (N.mine (state_of N x)) refl, old.fresh k is_fresh);
                over = λ d. absurd (cc d);
                activated = λ d. absurd (cc d);
              }));
          yes = λ c current undecided quiet voted. grind (arith, some-inj);
        }
      where
        is_fresh : IsFresh f k
        is_fresh = record { above = below; other = λ c current q. none-some f.current c none current }

        fresh : (m : Message) → IsIn m x.sent → m.campaign ≢ k
        fresh m h = old.begun m h k is_fresh

        entries : round_entries N k x.moves ≡ []
        entries = no-entries k x (λ e h. let s = live.entry_sent k e h in fresh e.message s.0 s.1)

        free : (o : Option ℕ) → N.mine (state_of N x) ≡ o → N.mine (state_of N x) ≡ None
        free None e = e
        free (Some tag) e = absurd (let p = old.session tag e in none-some f.current p.0 none p.1)

    -- at the decision Commit the node is ready
    pub ready-yes : (f : Fold) (x : NodeWorld N) (c : Current) → f.current ≡ Some c → c.decision ≡ None
        → c.restart ≡ false → vote_of c n ≡ Some Vote.Yes → KeptEarly N packages f n x
        → (stage_after (packages c.campaign n) (round_entries N c.campaign x.moves) ≡ Over)
        × (N.status (state_of N x) ≡ Activated) × Activates N (state_of N x) c.campaign (packages c.campaign n)
        × ((spans N c.campaign x.moves).ended ≡ [])
    ready-yes f x c current undecided quiet voted early =
        let h = early.at c current undecided quiet in
        let showed = early.yes c current undecided quiet voted in
        let over = h.over (showed-done Activated x.told showed) in
        elim h.is_on [
          | inl e ↦ absurd (cc (over, e))
          | inr p ↦ (
            over,
            h.activated showed,
            subst (λ y. IsAt N (state_of N x) c.campaign (packages c.campaign n) y) over p.0,
            p.1,
          )
        ]

    pub ready-node : (f : Fold) (x : NodeWorld N) (c : Current) → f.current ≡ Some c → c.decision ≡ None
        → c.restart ≡ false → all_yes c ≡ true → KeptOld N f n x → KeptEarly N packages f n x
        → IsReadyToCommit N laws packages n c x
    ready-node f x c current undecided quiet voted old early =
        record {
          waiting = λ named.
              let r = ready-yes f x c current undecided quiet (flagged-yes c.named.flags c.votes n voted named) early in
              record {
                waits = record { mine = r.2.mine; status = inl r.1; planned = r.2.planned };
                is_open = open-mine N laws x.moves c.campaign r.2.mine;
                none = r.3;
              };
          quiet = λ m sent exec.
              let p = old.present m sent exec in
              let same = some-inj p.0 c (sym p.1 ∙ current) in
              let r = ready-yes f x c current undecided quiet
              (flagged-yes c.named.flags c.votes n voted (sym (ap (λ y. flag_of y.named n) same) ∙ p.2)) early in
              let next = is-next N laws f.epoch c.campaign (packages c.campaign n) (state_of N x)
              (round_entries N c.campaign x.moves) (spans N c.campaign x.moves).ended x.sent x.told
              (early.at c current undecided quiet) m sent
              (p.4 ∙ ap (λ y. y.campaign) same) exec in
              over-none c.campaign (packages c.campaign n)
              (stage_after (packages c.campaign n) (round_entries N c.campaign x.moves)) m.call r.0 next.1;
        }
