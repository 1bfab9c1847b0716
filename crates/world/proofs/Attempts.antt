-- What was told to the messages that attempts sent are the replies that they got.
use Rattle.world.proofs.Names.{◌≡◌, inl, inr, ℕ, Bool, true, false, not, ◌&&◌, if◌then◌else◌, List, [], ◌∷◌, ◌++◌}
use Rattle.world.proofs.Names.{Option, Some, None, refl, sym, ◌∙◌, ap, subst, arith, append-nil, CallNo, Reply}
use Rattle.world.proofs.Names.{Message, Told, Answered, Showed, told_reply, one_if, replies_of, IsIn, IsBelow}
use Rattle.world.proofs.Names.{no_eq, no_lt, eq-eqb, nat_eq}
use Rattle.std.specs.Prelude.{is_some}
use Rattle.world.proofs.EarlyNode.{same-no}
use Rattle.world.proofs.Events.{below-trans, below-irrefl}
use Rattle.world.specs.Attempts.{Attempt, Tried, Worked, told_by, sent_by, with_sent, replies_by, MayTry, AreInOrder}

lt-below : (a b : CallNo) → no_lt a b ≡ true → IsBelow a b
lt-below a b e = grind arith

eq-same : (a : CallNo) → no_eq a a ≡ true
eq-same a = grind arith

below-apart : (a b : CallNo) → IsBelow a b → no_eq b a ≡ false
below-apart a b below = go (no_eq b a) refl
  where
    go : (b' : Bool) → no_eq b a ≡ b' → no_eq b a ≡ false
    go false e = e
    go true e = absurd (below-irrefl a (subst (IsBelow a) (same-no b a e) below))

apart-below : (a b : CallNo) → IsBelow a b → no_eq a b ≡ false
apart-below a b below = go (no_eq a b) refl
  where
    go : (b' : Bool) → no_eq a b ≡ b' → no_eq a b ≡ false
    go false e = e
    go true e = absurd (below-irrefl a (subst (IsBelow a) (sym (same-no a b e)) below))

not-told : (o : Option Reply) → is_some o ≡ false → o ≡ None
not-told None e = refl
not-told (Some r) e = absurd (cc e)

-- all messages are below this number
abbrev AllBelow : CallNo → List Message → Type 0
AllBelow at sent = (m : Message) → IsIn m sent → IsBelow m.at at

-- replies to messages of other numbers
told-other : (at : CallNo) (m : Message) (r : Reply) (ts : List Told) → no_eq m.at at ≡ false
    → told_reply (Answered m r ∷ ts) at ≡ told_reply ts at
told-other at m r ts e = ap (λ b. if b then Some r else told_reply ts at) e

replies-others : (k : ℕ) (m : Message) (r : Reply) (ts : List Told) (sent : List Message) → AllBelow m.at sent
    → replies_of k (Answered m r ∷ ts) sent ≡ replies_of k ts sent
replies-others k m r ts [] below = refl
replies-others k m r ts (y ∷ ys) below =
    go (nat_eq y.campaign k && not y.decided) (replies-others k m r ts ys (λ z h. below z (inr h)))
    (told-other y.at m r ts (below-apart y.at m.at (below y (inl refl))))
  where
    go : (b : Bool) → replies_of k (Answered m r ∷ ts) ys ≡ replies_of k ts ys
        → told_reply (Answered m r ∷ ts) y.at ≡ told_reply ts y.at
        → (if b then replies_of k (Answered m r ∷ ts) ys ++ one_if (told_reply (Answered m r ∷ ts) y.at)
        else replies_of k (Answered m r ∷ ts) ys)
        ≡ (if b then replies_of k ts ys ++ one_if (told_reply ts y.at) else replies_of k ts ys)
    go true rest one =
        ap (λ l. l ++ one_if (told_reply (Answered m r ∷ ts) y.at)) rest ∙ ap (λ o. replies_of k ts ys ++ one_if o) one
    go false rest one = rest

-- a showed status answers nothing
replies-showed : (k : ℕ) (ts us : List Told) (sent : List Message)
    → ((at : CallNo) → told_reply us at ≡ told_reply ts at)
    → replies_of k us sent ≡ replies_of k ts sent
replies-showed k ts us [] same = refl
replies-showed k ts us (y ∷ ys) same = grind (arith, same, replies-showed k ts us ys same)

module _ (k : ℕ) where
  -- what holds of attempts in order: the newest message is above the others, and none above it is told
  record Holds (attempts : List Attempt) : Type 0 where
    replies : replies_of k (told_by attempts) (sent_by attempts) ≡ replies_by attempts
    falling : (m : Message) (sent : List Message) → sent_by attempts ≡ m ∷ sent → AllBelow m.at sent
    untold : (at : CallNo) → AllBelow at (sent_by attempts) → told_reply (told_by attempts) at ≡ None

  own : (m : Message) (ts : List Told) (sent : List Message) → m.campaign ≡ k → m.decided ≡ false
      → replies_of k ts (m ∷ sent) ≡ replies_of k ts sent ++ one_if (told_reply ts m.at)
  own m ts sent of undecided =
      ap (λ b. if b then replies_of k ts sent ++ one_if (told_reply ts m.at) else replies_of k ts sent)
      (ap (λ b. b && not m.decided) (eq-eqb m.campaign k of) ∙ ap not undecided)

  -- an attempt of this message, behind which these were sent
  module _ (m : Message) (of : m.campaign ≡ k) (undecided : m.decided ≡ false) (attempts : List Attempt)
      (rest : List Message) (held : Holds attempts) (below : AllBelow m.at rest)
      (none : told_reply (told_by attempts) m.at ≡ None) (so_far : replies_of k (told_by attempts) rest
      ≡ replies_by attempts) (covers : (y : Message) → IsIn y (sent_by attempts) → IsIn y (m ∷ rest)) where
    abbrev ts : List Told
    ts = told_by attempts

    replies-now : (reply : Option Reply)
        → replies_of k (told_by (Tried m reply ∷ attempts)) (m ∷ rest) ≡ replies_by attempts ++ one_if reply
    replies-now None =
        own m ts rest of undecided ∙ (ap (λ o. replies_of k ts rest ++ one_if o) none ∙ ap (λ l. l ++ []) so_far)
    replies-now (Some r) =
        own m (Answered m r ∷ ts) rest of undecided
        ∙ (ap (λ b. replies_of k (Answered m r ∷ ts) rest ++ one_if (if b then Some r else told_reply ts m.at))
        (eq-same m.at)
        ∙ ap (λ l. l ++ r ∷ []) (replies-others k m r ts rest below ∙ so_far))

    untold-now : (reply : Option Reply) (at : CallNo) → AllBelow at (m ∷ rest)
        → told_reply (told_by (Tried m reply ∷ attempts)) at ≡ None
    untold-now None at all = held.untold at (λ y h. all y (covers y h))
    untold-now (Some r) at all =
        ap (λ b. if b then Some r else told_reply ts at) (apart-below m.at at (all m (inl refl)))
        ∙ held.untold at (λ y h. all y (covers y h))

    tried : (reply : Option Reply) → with_sent m (sent_by attempts) ≡ m ∷ rest → Holds (Tried m reply ∷ attempts)
    tried reply sent = record {
      replies = ap (replies_of k (told_by (Tried m reply ∷ attempts))) sent ∙ replies-now reply;
      falling = λ y ys is.
          let same : m ∷ rest ≡ y ∷ ys = sym sent ∙ is in
          let head : m ≡ y = cc same in
          let tail : rest ≡ ys = cc same in
          subst (λ z. AllBelow z.at ys) head (subst (λ l. AllBelow m.at l) tail below);
      untold = λ at all. untold-now reply at (subst (AllBelow at) sent all);
    }

  tried-any : (m : Message) (reply : Option Reply) (attempts : List Attempt) → m.campaign ≡ k → m.decided ≡ false
      → MayTry m (told_by attempts) (sent_by attempts) → Holds attempts → Holds (Tried m reply ∷ attempts)
  tried-any m reply attempts of undecided may held = go (sent_by attempts) refl may
    where
      ts : List Told
      ts = told_by attempts

      at-sent : (sent : List Message) → sent_by attempts ≡ sent → replies_of k ts sent ≡ replies_by attempts
      at-sent sent is = ap (replies_of k ts) (sym is) ∙ held.replies

      covered : (sent more : List Message) → sent_by attempts ≡ sent → ((y : Message) → IsIn y sent → IsIn y more)
          → (y : Message) → IsIn y (sent_by attempts) → IsIn y more
      covered sent more is f y h = f y (subst (IsIn y) is h)

      go : (sent : List Message) → sent_by attempts ≡ sent → MayTry m ts sent → Holds (Tried m reply ∷ attempts)
      go [] is may' =
          tried m of undecided attempts [] held (λ y h. absurd h)
          (held.untold m.at (λ y h. absurd (subst (IsIn y) is h))) (at-sent [] is)
          (covered [] (m ∷ []) is (λ y h. absurd h)) reply (ap (with_sent m) is)
      go (newest ∷ older) is (inl same) =
          let sent : sent_by attempts ≡ m ∷ older = is ∙ ap (λ y. y ∷ older) same.0 in
          let none : told_reply ts m.at ≡ None = not-told (told_reply ts m.at) same.1 in
          tried m of undecided attempts older held (held.falling m older sent) none
          (sym (append-nil (replies_of k ts older))
          ∙ (ap (λ o. replies_of k ts older ++ one_if o) (sym none)
          ∙ (sym (own m ts older of undecided) ∙ at-sent (m ∷ older) sent)))
          (covered (m ∷ older) (m ∷ older) sent (λ y h. h)) reply
          (ap (with_sent m) sent ∙ ap (λ b. if b then m ∷ older else m ∷ m ∷ older) (eq-same m.at))
      go (newest ∷ older) is (inr above) =
          let below = lt-below newest.at m.at above in
          let all : AllBelow m.at (newest ∷ older) = λ y h. elim h [
            | inl q ↦ subst (λ z. IsBelow z.at m.at) (sym q) below
            | inr h' ↦ below-trans y.at newest.at m.at (held.falling newest older is y h') below
          ] in
          tried m of undecided attempts (newest ∷ older) held all
          (held.untold m.at (subst (AllBelow m.at) (sym is) all)) (at-sent (newest ∷ older) is)
          (covered (newest ∷ older) (m ∷ newest ∷ older) is (λ y h. inr h)) reply
          (ap (with_sent m) is
          ∙ ap (λ b. if b then newest ∷ older else m ∷ newest ∷ older) (apart-below newest.at m.at below))

  worked : (status : _) (attempts : List Attempt) → Holds attempts → Holds (Worked status ∷ attempts)
  worked None attempts held = record { replies = held.replies; falling = held.falling; untold = held.untold }
  worked (Some s) attempts held = record {
    replies =
        replies-showed k (told_by attempts) (Showed s ∷ told_by attempts) (sent_by attempts) (λ at. refl)
        ∙ held.replies;
    falling = held.falling;
    untold = held.untold;
  }

  holds : (attempts : List Attempt) → AreInOrder k attempts → Holds attempts
  holds [] order = record { replies = refl; falling = λ m sent is. absurd (cc is); untold = λ at all. refl }
  holds (Tried m reply ∷ attempts) order = tried-any m reply attempts order.0 order.1 order.2 (holds attempts order.3)
  holds (Worked status ∷ attempts) order = worked status attempts (holds attempts order)

  pub replies-got : (attempts : List Attempt) → AreInOrder k attempts
      → replies_of k (told_by attempts) (sent_by attempts) ≡ replies_by attempts
  replies-got attempts order = (holds attempts order).replies
