-- What a call makes of what its client knows.
use Rattle.std.proofs.Common.{◌≡◌, ◌⊎◌, inl, inr, ⊎_elim, ℕ, ◌<◌, ◌==◌, Bool, true, false, cond, eqb, if◌then◌else◌, List, [], ◌∷◌, ◌++◌, refl, sym, ◌∙◌, ap, subst, arith, Option, Some, None}
use Rattle.std.specs.Prelude.{IfSome}
use Rattle.std.specs.List.{AllByRecursion}
use Rattle.std.specs.declared.cmp.Ordering.{Ordering}
use Rattle.std.specs.declared.cmp.Ordering.TheVariants.{Less, Equal, Greater}
use Rattle.std.proofs.lemmas.Bool.{eqb-true}
use Rattle.std.proofs.lemmas.List.{append-nil}
use Rattle.turn_gate.specs.Mine.{Settles, doubt_in, mine_of}
use Rattle.turn_gate.specs.Parts.{doubt_of, is_of, own}
use Rattle.turn_gate.specs.declared.view.View.{View}
use Rattle.turn_gate.proofs.Becomes.{own-append}
use Rattle.ucm_base.specs.declared.ids.CallNo.{CallNo}
use Rattle.ucm_base.specs.Limits.{client_limit}
use Rattle.pm_types.specs.declared.calls.Call.{Call}
use Rattle.pm_types.specs.declared.history.Entry.{Entry}
use Rattle.pm_types.specs.declared.history.Entry.TheVariants.{Numbered, Unit as UnitDone}
use Rattle.pm_types.specs.declared.replies.Reached.{Reached}
use Rattle.pm_types.specs.declared.replies.Reached.TheVariants.{Done, Again, Stale}
use Rattle.pm_types.specs.declared.replies.Reply.{Reply}
use Rattle.pm_types.specs.declared.state.Kept.{Kept}
use Rattle.pm_types.specs.Histories.{IsLegal, IsNext, after_entry, state_after, verdict_for}
use Rattle.pm_types.specs.NodeState.{NodeState, of_client}
use Rattle.pm_types.specs.Steps.{after_call, by_last, by_order, call_no_cmp, reply_to}
use Rattle.node_laws.specs.Fit.{IsFit}
use Rattle.node_laws.specs.NewestKept.{newest_kept}
use Rattle.node_laws.proofs.NewestKept.{keeps-newest}
use Rattle.node_laws.proofs.GoingOn.{goes-on}
use Rattle.node_laws.proofs.Kept.{keeps-fit}
use Rattle.node_core.specs.Packages.{package_reading}
use Rattle.node_core.proofs.Sound.{reading-is}
use Rattle.node_store.specs.declared.answers.NodeAnswer.{NodeAnswer}
use Rattle.node_store.specs.declared.answers.NodeAnswer.TheVariants.{Reached as Got, NoReply, OutOfMemory}
use Rattle.sub_core.specs.Made.{Made}
use Rattle.client_calls.specs.Arrivals.{MayArrive}
use Rattle.client_calls.specs.Calls.{AreBelow, IsBelow, Known, Posted, Settles as SettlesCalls}
use Rattle.node_gate.specs.Calls.{CallsTo, HasSettled, IsEntered, IsPending, StaysOrSettles}
use Rattle.node_gate.specs.Clients.{call_in, calls_in, known_of}
use Rattle.node_gate.specs.Seats.{IsPartFound, IsPartLeft}
use Rattle.node_gate.specs.Stands.{Listing, tells}

calls-append : (es fs : List Entry) → calls_in (es ++ fs) ≡ calls_in es ++ calls_in fs
calls-append [] fs = refl
calls-append (Numbered client at call reply ∷ es) fs =
    ap (λ ms. record { at = at; call = call; reply = reply } ∷ ms) (calls-append es fs)
calls-append (UnitDone passed after ∷ es) fs = calls-append es fs

-- entries that settle a doubt are calls that settle the doubt's
calls-settle : (d : Option Entry) (mine after : List Entry) → Settles d mine after
    → SettlesCalls (call_in d) (calls_in mine) (calls_in after)
calls-settle None mine after s = ap calls_in s
calls-settle (Some (Numbered client at call reply)) mine after s =
    ⊎_elim (λ t. inl (ap calls_in t))
    (λ t. inr (ap calls_in t ∙ calls-append mine (Numbered client at call reply ∷ []))) s
calls-settle (Some (UnitDone passed after_unit)) mine after s =
    ⊎_elim (λ t. ap calls_in t)
    (λ t. ap calls_in t ∙ calls-append mine (UnitDone passed after_unit ∷ []) ∙ append-nil (calls_in mine)) s

eqb-same : (n : ℕ) → eqb n n ≡ true
eqb-same n = grind arith

-- a call that a node executes has a number above the one that it has kept
above-order : (n m : NodeState) (given reply : Reply) (at : CallNo) (kept : Kept) (order : Ordering)
    → call_no_cmp at kept.no ≡ order → (by_order n (m, Done given) kept order).1 ≡ Done reply → IsBelow kept.no at
above-order n m given reply at kept Less is e = absurd (cc e)
above-order n m given reply at kept Equal is e = absurd (cc e)
above-order n m given reply at kept Greater is e = grind arith

above-last : (n m : NodeState) (given reply : Reply) (at : CallNo) (o : Option Kept)
    → (by_last n (m, Done given) at o).1 ≡ Done reply → IfSome o (λ kept. IsBelow kept.no at)
above-last n m given reply at None e = tt
above-last n m given reply at (Some kept) e =
    above-order n m given reply at kept (call_no_cmp at kept.no) refl e

-- an epoch and a number above another, and that above a third
below-trans : (a b c : CallNo) → IsBelow a b → IsBelow b c → IsBelow a c
below-trans a b c h g = grind arith

module _ (client : ℕ) (at : CallNo) (low : client < client_limit) where
  abbrev Above : Option Kept → Type 0
  Above o = IfSome o (λ kept. IsBelow kept.no at)

  above-both : (num : CallNo) (o : Option Kept) → IfSome o (λ kept. IsBelow kept.no num) → IsBelow num at → Above o
  above-both num None h g = tt
  above-both num (Some kept) h g = below-trans kept.no num at h g

  -- one entry before others that are legal behind it
  below-one : (s : NodeState) (e : Entry) (es : List Entry) → IsNext package_reading s e
      → Above (newest_kept client (of_client s.last client) (e ∷ []))
      → AreBelow (calls_in (own tells client es)) at
      → AreBelow (calls_in (own tells client (e ∷ es))) at × Above (of_client s.last client)
  below-one s (UnitDone passed after) es next above rest = (rest, above)
  below-one s (Numbered by num call reply) es next above rest = go (eqb by client) refl above
    where
      E : Entry
      E = Numbered by num call reply

      go : (b : Bool) → eqb by client ≡ b
          → Above (if b then Some (record { no = num; reply = reply }) else of_client s.last client)
          → AreBelow (calls_in (cond b (E ∷ own tells client es) (own tells client es))) at
          × Above (of_client s.last client)
      go true same above =
          let verdict = verdict_for package_reading s by call in
          let given = reply_to s by call verdict in
          let kept = above-last s (after_call s by num call verdict given) given reply num (of_client s.last by) next.1 in (
            (above, rest),
            above-both num (of_client s.last client)
                (subst (λ k. IfSome (of_client s.last k) (λ kept. IsBelow kept.no num)) (eqb-true by client same) kept)
                above,
          )
      go false other above = (rest, above)

  -- a number that is above what is kept after a legal list is above the client's own calls of the list
  pub below : (s : NodeState) (es : List Entry) → IsFit package_reading s → IsLegal package_reading s es
      → Above (of_client (state_after package_reading s es).last client)
      → AreBelow (calls_in (own tells client es)) at × Above (of_client s.last client)
  below s [] fit legal above = (tt, above)
  below s (e ∷ es) fit legal above =
      let next = after_entry package_reading s e in
      let fit_next = (keeps-fit package_reading reading-is).history s (e ∷ []) fit (legal.0, tt) in
      let rest = below next es fit_next legal.1 above in
      below-one s e es legal.0
      (subst Above ((keeps-newest package_reading).kept s (e ∷ []) client fit.consistent.limits.clients.0 low) rest.1)
      rest.0

-- one call of a seat, from what it found of the client's part to what it left of it
module _ {O : Type 0} (n : NodeState) (fit : IsFit package_reading n) (client : ℕ) (at : CallNo) (call : Call)
    (old new : View Entry O) (found left : Listing) (was : IsPartFound client old found)
    (is : IsPartLeft client new left) (legal : IsLegal package_reading n left.entries) where
  abbrev mine : List Entry
  mine = mine_of client old.parts

  abbrev doubt : Option Entry
  doubt = doubt_in client old.parts

  abbrev P : Posted
  P = record { at = at; call = call }

  abbrev Arrives : Type 0
  Arrives = MayArrive P (known_of client old) (known_of client new)

  abbrev left_known : List Entry → Option Entry → Known
  left_known entries pending =
      record { mine = calls_in (own tells client entries); doubt = call_in (doubt_of tells pending client) }

  known_is : known_of client new ≡ left_known left.entries left.pending
  known_is = λ i. record { mine = calls_in (is.mine i); doubt = call_in (is.doubt i) }

  was_doubt : (d : Entry) → found.pending ≡ Some d → is_of (tells d) client ≡ true
      → (doubt ≡ Some d) × (own tells client found.entries ≡ mine)
  was_doubt d pends told =
      subst (λ o. IfSome o (λ e. (doubt ≡ Some e) × (own tells client found.entries ≡ mine)))
      (ap (λ o. doubt_of tells o client) pends ∙ ap (λ b. cond b (Some d) None) told) was.pending_was

  own_settles : (after : List Entry) → Settles found.pending found.entries after
      → Settles doubt mine (own tells client after)
  own_settles after s = go found.pending refl s
    where
      same : after ≡ found.entries → Settles doubt mine (own tells client after)
      same e = subst (λ l. Settles doubt mine (own tells client l)) (sym e) was.own_is

      go : (o : Option Entry) → found.pending ≡ o → Settles o found.entries after
          → Settles doubt mine (own tells client after)
      go None none e = same e
      go (Some d) pends (inl e) = same e
      go (Some d) pends (inr e) = by (is_of (tells d) client) refl
        where
          own_is : own tells client after ≡ own tells client found.entries ++ own tells client (d ∷ [])
          own_is = ap (own tells client) e ∙ own-append tells client found.entries (d ∷ [])

          by : (b : Bool) → is_of (tells d) client ≡ b → Settles doubt mine (own tells client after)
          by true told =
              let w = was_doubt d pends told in
              subst (λ o. Settles o mine (own tells client after)) (sym w.0)
              (inr (own_is ∙ ap (λ l. l ++ own tells client (d ∷ [])) w.1
              ∙ ap (λ b. mine ++ cond b (d ∷ []) []) told))
          by false other =
              subst (Settles doubt mine) (sym (own_is ∙ ap (λ b. own tells client found.entries ++ cond b (d ∷ []) [])
              other ∙ append-nil (own tells client found.entries))) was.own_is

  settles : (after : List Entry) → Settles found.pending found.entries after
      → SettlesCalls (call_in doubt) (calls_in mine) (calls_in (own tells client after))
  settles after s = calls-settle doubt mine (own tells client after) (own_settles after s)

  settled : HasSettled found left → Arrives
  settled a = subst (MayArrive P (known_of client old)) (sym known_is)
      (inr (
        calls_in (own tells client left.entries),
        settles left.entries a.settled,
        inl (ap (λ o. left_known left.entries o) a.no_doubt),
      ))

  stays : left ≡ found → Arrives
  stays same = subst (MayArrive P (known_of client old))
      (sym (known_is ∙ ap (λ (l : Listing). left_known l.entries l.pending) same)) (go found.pending refl)
    where
      none : doubt_of tells found.pending client ≡ None
          → MayArrive P (known_of client old) (left_known found.entries found.pending)
      none e = inr (
        calls_in (own tells client found.entries),
        calls-settle doubt mine _ was.own_is,
        inl (λ i. record { mine = calls_in (own tells client found.entries); doubt = call_in (e i) }),
      )

      go : (o : Option Entry) → found.pending ≡ o
          → MayArrive P (known_of client old) (left_known found.entries found.pending)
      go None pends = none (ap (λ o. doubt_of tells o client) pends)
      go (Some d) pends = by (is_of (tells d) client) refl
        where
          by : (b : Bool) → is_of (tells d) client ≡ b
              → MayArrive P (known_of client old) (left_known found.entries found.pending)
          by true told =
              let w = was_doubt d pends told in
              let is_some = ap (λ o. doubt_of tells o client) pends ∙ ap (λ b. cond b (Some d) None) told in
              inl (λ i. record { mine = calls_in (w.1 i); doubt = call_in ((is_some ∙ sym w.0) i) })
          by false other =
              none (ap (λ o. doubt_of tells o client) pends ∙ ap (λ b. cond b (Some d) None) other)

  either : StaysOrSettles found left → Arrives
  either t = ⊎_elim (λ (u : left ≡ found). stays u) (λ (u : HasSettled found left). settled u) t

  abbrev entry : Reply → Entry
  entry reply = Numbered client at call reply

  own_new : (reply : Reply) (es : List Entry)
      → own tells client (es ++ entry reply ∷ []) ≡ own tells client es ++ entry reply ∷ []
  own_new reply es = own-append tells client es (entry reply ∷ [])
      ∙ ap (λ b. own tells client es ++ cond b (entry reply ∷ []) []) (eqb-same client)

  above : (reply : Reply) (es : List Entry) → IsLegal package_reading n es
      → IsNext package_reading (state_after package_reading n es) (entry reply)
      → AreBelow (calls_in (own tells client es)) at
  above reply es legal_es next =
      let s = state_after package_reading n es in
      let verdict = verdict_for package_reading s client call in
      let given = reply_to s client call verdict in
      let kept = above-last s (after_call s client at call verdict given) given reply at (of_client s.last client) next.1 in
      (below client at next.0 n es fit legal_es kept).0

  entered : (reply : Reply) → IsEntered n (entry reply) found left → Arrives
  entered reply a =
      let es = a.before in
      let whole = subst (λ (l : Listing). IsLegal package_reading n l.entries) a.entered legal in
      let legal_es = (((goes-on package_reading).legal n es (entry reply ∷ [])).0 whole).0 in
      let is_new = ap calls_in (own_new reply es) ∙ calls-append (own tells client es) (entry reply ∷ []) in
      let same = known_is ∙ ap (λ (l : Listing). left_known l.entries l.pending) a.entered in
      subst (MayArrive P (known_of client old)) (sym same)
      (inr (
        calls_in (own tells client es),
        settles es a.settled,
        inr (inl (
          reply,
          above reply es legal_es a.next,
          λ i. record { mine = is_new i; doubt = None },
        )),
      ))

  pends : (reply : Reply) → IsPending n (entry reply) found left → Arrives
  pends reply a =
      let es = left.entries in
      let doubts = ap (λ o. doubt_of tells o client) a.pending ∙ ap (λ b. cond b (Some (entry reply)) None)
      (eqb-same client) in
      subst (MayArrive P (known_of client old)) (sym known_is)
      (inr (
        calls_in (own tells client es),
        settles es a.settled,
        inr (inr (
          reply,
          above reply es legal a.next,
          λ i. record { mine = calls_in (own tells client es); doubt = call_in (doubts i) },
        )),
      ))

  pub arrives : (answer : NodeAnswer) → CallsTo n client at call answer found left → Arrives
  arrives (Got (Done reply)) a = entered reply a
  arrives (Got (Again reply)) a = settled a.settled
  arrives (Got (Stale last)) a = settled a.settled
  arrives (NoReply faults) a =
      ⊎_elim (λ (t : StaysOrSettles found left). either t)
      (λ (t : (reply : Reply) × IsPending n (entry reply) found left). pends t.0 t.1) a.1
  arrives OutOfMemory a = either a
