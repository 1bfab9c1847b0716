-- What one node's part of the time before the decision keeps under each event.
use Rattle.world.proofs.Names.{and_parts, nat_tests, arith, ◌≡◌, ◌≢◌, inl, inr, if◌then◌else◌, ◌&&◌, not, ◌++◌, ℕ, List}
use Rattle.world.proofs.Names.{[], ◌∷◌, Option, Some, None, Bool, true, false, is_some, nat_eq, refl, sym, ◌∙◌, ap}
use Rattle.world.proofs.Names.{subst, eqb-true, eq-eqb, CallNo, Status, Activated, Call, Reply, Sync, Activate, Done}
use Rattle.world.proofs.Names.{IsBelow, no_eq, Message, Told, Answered, Showed, IsIn, told_reply, is_told}
use Rattle.world.proofs.Names.{is_activate, is_done, Stage, AtSync, AtActivate, Over, RefusedOnce, call_at, onward}
use Rattle.world.proofs.Names.{stage_of, one_if, replies_of, activate_done, showed_after_activate}
use Rattle.world.proofs.Rules.{NodeRules, NodeLaws, reached, delivered, Span}
use Rattle.world.proofs.Invariant.{Executable}
use Rattle.world.proofs.EarlyFacts.{ClientEntry, judged, with_entry, stage_after, Follows, IsAt, AllDone}
use Rattle.world.proofs.EarlyFacts.{OneWaits, AllTold, OlderTold, EarlyAt, at-foreign, at-unit, at-keep, at-judge}
use Rattle.world.proofs.Events.{below-irrefl, or-true}

pub same-no : (a b : CallNo) → no_eq a b ≡ true → a ≡ b
same-no a b e = grind arith

-- what told has for a number is an answer to a message of this number
pub told-in : (ts : List Told) (at : CallNo) (r : Reply) → told_reply ts at ≡ Some r
    → (m : Message) × IsIn (Answered m r) ts × (m.at ≡ at)
told-in [] at r e = absurd (cc e)
told-in (Showed s ∷ ts) at r e = let h = told-in ts at r e in (h.0, inr h.1, h.2)
told-in (Answered m q ∷ ts) at r e = go (no_eq m.at at) refl e (λ z. told-in ts at r z)
  where
    go : (b : Bool) → no_eq m.at at ≡ b → (if b then Some q else told_reply ts at) ≡ Some r
        → (told_reply ts at ≡ Some r → (m' : Message) × IsIn (Answered m' r) ts × (m'.at ≡ at))
        → (m' : Message) × IsIn (Answered m' r) (Answered m q ∷ ts) × (m'.at ≡ at)
    go true b e' rec = let q_is : q ≡ r = cc e' in (m, inl (ap (Answered m) (sym q_is)), same-no m.at at b)
    go false b e' rec = let h = rec e' in (h.0, inr h.1, h.2)

pub showed-done : (x : Status) (ts : List Told) → showed_after_activate x ts ≡ true → activate_done ts ≡ true
showed-done x [] e = absurd (cc e)
showed-done x (Answered m r ∷ ts) e = grind (arith, showed-done x ts e)
showed-done x (Showed s ∷ ts) e = grind (arith, showed-done x ts)

call-activate : (call : Call) → is_activate call ≡ true → call ≡ Activate
call-activate x e = grind arith

reply-done : (r : Reply) → is_done r ≡ true → r ≡ Done
reply-done x e = grind arith

-- the replies that are told lead to the same stage as the entries
stage-push : (ps : List (List ℕ)) (stage : Stage) (rs : List Reply) (r : Reply)
    → stage_of ps stage (rs ++ r ∷ []) ≡ onward ps (stage_of ps stage rs) r
stage-push ps stage [] r = refl
stage-push ps stage (x ∷ rs) r = stage-push ps (onward ps stage x) rs r

module _ (k : ℕ) (ps : List (List ℕ)) where
  flag-true : (m : Message) → m.campaign ≡ k → m.decided ≡ false → (nat_eq m.campaign k && not m.decided) ≡ true
  flag-true m c d = subst (λ b. (b && not m.decided) ≡ true) (sym (eq-eqb m.campaign k c)) (ap not d)

  replies-none : (ts : List Told) (sent : List Message) → ((m : Message) → IsIn m sent → m.campaign ≢ k)
      → replies_of k ts sent ≡ []
  replies-none ts [] none = refl
  replies-none ts (m ∷ ms) none = go (nat_eq m.campaign k) refl (replies-none ts ms (λ y h. none y (inr h)))
    where
      go : (b : Bool) → nat_eq m.campaign k ≡ b → replies_of k ts ms ≡ []
          → (if (b && not m.decided) then replies_of k ts ms ++ one_if (told_reply ts m.at) else replies_of k ts ms)
          ≡ []
      go true e rec = absurd (none m (inl refl) (eqb-true m.campaign k e))
      go false e rec = rec

  pub told-stage : (ts : List Told) (es : List ClientEntry) (sent : List Message) → AllDone k es sent → AllTold ts es
      → stage_of ps AtSync (replies_of k ts sent) ≡ stage_after ps es
  told-stage ts [] sent done told = ap (stage_of ps AtSync) (replies-none ts sent done)
  told-stage ts (e ∷ es) [] done told = absurd done
  told-stage ts (e ∷ es) (m ∷ ms) done told =
      grind (arith, not, flag-true, stage_after, stage-push, told-stage ts es ms done.3 told.1)

  at-activate : (stage : Stage) → call_at k stage ≡ Some Activate → stage ≡ AtActivate
  at-activate stage e = grind arith

  -- over and refused stages have no call
  pub over-none : (stage : Stage) (call : Call) → stage ≡ Over → call_at k stage ≡ Some call → ⊥
  over-none stage call e h =
      let q : call_at k Over ≡ Some call = subst (λ x. call_at k x ≡ Some call) e h in let g : None ≡ Some call = q in
      cc g

  pub refused-none : (stage : Stage) (call : Call) → stage ≡ RefusedOnce → call_at k stage ≡ Some call → ⊥
  refused-none stage call e h =
      let q : call_at k RefusedOnce ≡ Some call = subst (λ x. call_at k x ≡ Some call) e h in let g : None
      ≡ Some call = q in cc g

  -- after an accepted Activate the rounds are over
  pub activate-over : (es : List ClientEntry) (e : ClientEntry) → Follows k ps es → IsIn e es
      → e.message.call ≡ Activate → e.reply ≡ Done → stage_after ps es ≡ Over
  activate-over [] e f h c r = absurd h
  activate-over (y ∷ ys) e f h c r =
      elim h [
        | inl q ↦
            (let call : y.message.call ≡ Activate = sym (ap (λ z. z.message.call) q) ∙ c in
            let stage : stage_after ps ys ≡ AtActivate = at-activate (stage_after ps ys) (f.0 ∙ ap Some call) in
            let reply : y.reply ≡ Done = sym (ap (λ z. z.reply) q) ∙ r in
            ap (λ z. onward ps z y.reply) stage ∙ ap (onward ps AtActivate) reply)
        | inr h' ↦ absurd (over-none (stage_after ps ys) y.message.call (activate-over ys e f.1 h' c r) f.0)
      ]

  -- a message of the campaign that was sent has its entry
  in-done : (es : List ClientEntry) (sent : List Message) (m : Message) → AllDone k es sent → IsIn m sent
      → m.campaign ≡ k → (e : ClientEntry) × IsIn e es × (e.message ≡ m)
  in-done [] sent m all h c = absurd (all m h c)
  in-done (e ∷ es) [] m all h c = absurd h
  in-done (e ∷ es) (y ∷ ys) m all h c =
      elim h [
        | inl q ↦ (e, inl refl, sym all.0 ∙ sym q)
        | inr h' ↦ (let r = in-done es ys m all.3 h' c in
            (r.0, inr r.1, r.2))
      ]

all-told : (ts us : List Told) (es : List ClientEntry)
    → ((e : ClientEntry) → IsIn e es → told_reply ts e.message.at ≡ Some e.reply
    → told_reply us e.message.at ≡ Some e.reply) → AllTold ts es → AllTold us es
all-told ts us [] f h = tt
all-told ts us (e ∷ es) f h = (f e (inl refl) h.0, all-told ts us es (λ y q. f y (inr q)) h.1)

older-told : (ts us : List Told) (es : List ClientEntry)
    → ((e : ClientEntry) → IsIn e es → told_reply ts e.message.at ≡ Some e.reply
    → told_reply us e.message.at ≡ Some e.reply) → OlderTold ts es → OlderTold us es
older-told ts us x f h = grind (arith, all-told)

module _ (N : NodeRules) (laws : NodeLaws N) where
  -- a delivery is nothing, or an executable call that is judged, kept and answered
  pub judged-cases : (s : N.State) (m : Message) (P : N.State → Option Reply → Type 0) → P s None
      → (Executable N s m
      → P (N.keep (N.judge s m.call).0 m.at m.call (N.judge s m.call).1) (Some (N.judge s m.call).1))
      → P (delivered N s m.at m.call) (judged (reached N s m.at m.call))
  judged-cases s m P here there = grind (arith, nat_tests)

  module _ (epoch k : ℕ) (ps : List (List ℕ)) where
    sent-done : (s : N.State) (es : List ClientEntry) (ended : List (Span N)) (sent : List Message) (told : List Told)
        → EarlyAt N epoch k ps s es ended sent told → (some : List Message) → AllDone k es some → (m : Message)
        → IsIn m some → m.campaign ≡ k → IsBelow (N.last s) m.at → ⊥
    sent-done s es ended sent told h some all m q c below = grind (arith, in-done)

    -- an executable message of the campaign is the one that waits
    pub is-next : (s : N.State) (es : List ClientEntry) (ended : List (Span N)) (sent : List Message) (told : List Told)
        → EarlyAt N epoch k ps s es ended sent told → (m : Message) → IsIn m sent → m.campaign ≡ k
        → IsBelow (N.last s) m.at
        → (m.decided ≡ false) × (call_at k (stage_after ps es) ≡ Some m.call) × AllTold told es
        × AllDone k (record { message = m; reply = (N.judge s m.call).1 } ∷ es) sent
    is-next s es ended sent told h m q c below =
        elim h.sends [
          | inl d ↦ absurd (sent-done s es ended sent told h sent d.0 m q c below)
          | inr w ↦ go sent w.0 q w.1
        ]
      where
        go : (some : List Message) → OneWaits N s k ps es some → IsIn m some → AllTold told es
            → (m.decided ≡ false) × (call_at k (stage_after ps es) ≡ Some m.call) × AllTold told es
            × AllDone k (record { message = m; reply = (N.judge s m.call).1 } ∷ es) some
        go [] w i t = absurd w
        go (y ∷ ys) w i t =
            elim i [
              | inl e ↦ (ap (λ z. z.decided) e ∙ w.1, w.2 ∙ ap (λ z. Some z.call) (sym e), t, (sym e, w.0, w.1, w.4))
              | inr i' ↦ absurd (sent-done s es ended sent told h ys w.4 m i' c below)
            ]

    pub early-judged : (s : N.State) (es : List ClientEntry) (ended : List (Span N)) (sent : List Message)
        (told : List Told) → ((m : Message) (r : Reply) → IsIn (Answered m r) told → IsBelow (N.last s) m.at → ⊥)
        → (m : Message) → IsIn m sent → m.campaign ≡ k → IsBelow (N.last s) m.at
        → EarlyAt N epoch k ps s es ended sent told
        → EarlyAt N epoch k ps (N.keep (N.judge s m.call).0 m.at m.call (N.judge s m.call).1)
        (with_entry (Some (N.judge s m.call).1) (nat_eq m.campaign k && not m.decided) m es) ended sent told
    early-judged s es ended sent told known m q c below h =
        let n = is-next s es ended sent told h m q c below in
        subst (λ b. EarlyAt N epoch k ps (N.keep (N.judge s m.call).0 m.at m.call (N.judge s m.call).1)
        (with_entry (Some (N.judge s m.call).1) b m es) ended sent told) (sym (flag-true k ps m c n.0))
        (record {
          epochs = h.epochs;
          follows = (n.1, h.follows);
          sends = inl (n.3, n.2);
          last = λ e i. grind (arith, laws.keep_last, laws.keep_kept);
          told_entry = λ e i r t. grind (arith, told-in);
          is_on = grind (arith, refused-none, stage_after, at-judge, at-keep);
          over = λ d. absurd (over-none k ps (stage_after ps es) m.call (h.over d) n.1);
          activated =
              λ d. absurd (over-none k ps (stage_after ps es) m.call (h.over (showed-done Activated told d)) n.1);
        })

    -- a foreign call
    pub early-foreign : (s : N.State) (call : N.ForeignCall) (es : List ClientEntry) (ended : List (Span N))
        (sent : List Message) (told : List Told) → EarlyAt N epoch k ps s es ended sent told
        → EarlyAt N epoch k ps (N.foreign s call) es ended sent told
    early-foreign s call es ended sent told h =
        grind (arith, at-foreign, stage_after, showed-done, laws.foreign_session)

    -- a unit, which leaves the spans that ended unless the session is being cleaned up
    pub early-unit : (s : N.State) (passed : Bool) (es : List ClientEntry) (ended ended' : List (Span N))
        (sent : List Message) (told : List Told) → (IsAt N s k ps (stage_after ps es) → ended ≡ [] → ended' ≡ [])
        → EarlyAt N epoch k ps s es ended sent told → EarlyAt N epoch k ps (N.unit s passed) es ended' sent told
    early-unit s passed es ended ended' sent told stays h = grind (arith, at-unit, stage_after, laws.unit_still)

    -- an answer that is told: its message is the last one that was judged
    pub early-answered : (s : N.State) (es : List ClientEntry) (ended : List (Span N)) (sent : List Message)
        (told : List Told) (m : Message) (r : Reply) → IsIn m sent → m.at ≡ N.last s → N.kept s ≡ r
        → (m.call ≢ Sync → m.campaign ≡ k) → EarlyAt N epoch k ps s es ended sent told
        → EarlyAt N epoch k ps s es ended sent (Answered m r ∷ told)
    early-answered s es ended sent told m r q at kept here h =
        record {
          epochs = h.epochs;
          follows = h.follows;
          sends =
              elim h.sends [
                | inl d ↦ inl (d.0, older-told told (Answered m r ∷ told) es more d.1)
                | inr w ↦ inr (w.0, all-told told (Answered m r ∷ told) es more w.1)
              ];
          last = h.last;
          told_entry = λ e i r' t. entry e i r' (no_eq m.at e.message.at) refl t;
          is_on = h.is_on;
          over = λ d.
              elim (or-true (is_activate m.call && is_done r) (activate_done told) d) [
                | inl a ↦ (let b = and_parts (is_activate m.call) (is_done r) a in
                    new (call-activate m.call b.0) (reply-done r b.1))
                | inr a ↦ h.over a
              ];
          activated = h.activated;
        }
      where
        -- an entry with the last number has this reply
        reply-is : (e : ClientEntry) → IsIn e es → m.at ≡ e.message.at → e.reply ≡ r
        reply-is e i same = grind arith

        more : (e : ClientEntry) → IsIn e es → told_reply told e.message.at ≡ Some e.reply
            → told_reply (Answered m r ∷ told) e.message.at ≡ Some e.reply
        more e i t = grind (arith, nat_tests)

        entry : (e : ClientEntry) → IsIn e es → (r' : Reply) (b : Bool) → no_eq m.at e.message.at ≡ b
            → (if b then Some r else told_reply told e.message.at) ≡ Some r' → r' ≡ e.reply
        entry e i r' true p t = let x : r ≡ r' = cc t in sym x ∙ sym (reply-is e i (same-no m.at e.message.at p))
        entry e i r' false p t = h.told_entry e i r' t

        new : m.call ≡ Activate → r ≡ Done → stage_after ps es ≡ Over
        new call done = grind (arith, in-done, activate-over, below-irrefl)

    -- a status that is told
    pub early-showed : (s : N.State) (es : List ClientEntry) (ended : List (Span N)) (sent : List Message)
        (told : List Told) (x : Status) → N.status s ≡ x → EarlyAt N epoch k ps s es ended sent told
        → EarlyAt N epoch k ps s es ended sent (Showed x ∷ told)
    early-showed s es ended sent told x status h = grind arith

    -- before a new message all entries were told
    pub all-answered : (s : N.State) (es : List ClientEntry) (ended : List (Span N)) (sent : List Message)
        (told : List Told) → ((m : Message) (r : Reply) → IsIn (Answered m r) told → IsBelow (N.last s) m.at → ⊥)
        → ((m : Message) (ms : List Message) → sent ≡ m ∷ ms → m.campaign ≡ k → is_told told m.at ≡ true)
        → EarlyAt N epoch k ps s es ended sent told → AllDone k es sent × AllTold told es
    all-answered s es ended sent told known newest h = grind (arith, done, waiting)
      where
        reply-of : (o : Option Reply) → is_some o ≡ true → (r : Reply) × (o ≡ Some r)
        reply-of None e = absurd (cc e)
        reply-of (Some r) e = (r, refl)

        done : (fs : List ClientEntry) (some : List Message)
            → ((e : ClientEntry) → IsIn e fs → (r : Reply) → told_reply told e.message.at ≡ Some r → r ≡ e.reply)
            → ((m : Message) (ms : List Message) → some ≡ m ∷ ms → m.campaign ≡ k → is_told told m.at ≡ true)
            → AllDone k fs some → OlderTold told fs → AllTold told fs
        done [] some entry new all older = tt
        done (e ∷ fs) [] entry new all older = absurd all
        done (e ∷ fs) (y ∷ ys) entry new all older =
            let r = reply-of (told_reply told y.at) (new y ys refl all.1) in
            let t : told_reply told e.message.at ≡ Some r.0 = ap (λ z. told_reply told z.at) (sym all.0) ∙ r.1 in
            (t ∙ ap Some (entry e (inl refl) r.0 t), older)

        waiting : (some : List Message)
            → ((m : Message) (ms : List Message) → some ≡ m ∷ ms → m.campaign ≡ k → is_told told m.at ≡ true)
            → OneWaits N s k ps es some → ⊥
        waiting [] new w = w
        waiting (y ∷ ys) new w =
            let r = reply-of (told_reply told y.at) (new y ys refl w.0) in
            let a = told-in told y.at r.0 r.1 in
            known a.0 r.0 a.1 (subst (λ z. IsBelow (N.last s) z) (sym a.2) w.3)

    pub early-sent : (s : N.State) (es : List ClientEntry) (ended : List (Span N)) (sent : List Message)
        (told : List Told) (m : Message) → m.campaign ≡ k → m.decided ≡ false → m.at.epoch ≡ epoch
        → IsBelow (N.last s) m.at → call_at k (stage_of ps AtSync (replies_of k told sent)) ≡ Some m.call
        → AllDone k es sent × AllTold told es → EarlyAt N epoch k ps s es ended sent told
        → EarlyAt N epoch k ps s es ended (m ∷ sent) told
    early-sent s es ended sent told m c d e below call all h = grind (arith, told-stage)
