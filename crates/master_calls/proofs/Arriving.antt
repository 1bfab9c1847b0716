-- Arrivals keep the calls in turn.
use Rattle.std.specs.Prelude.{◌≡◌, ◌⊎◌, List, [], ◌∷◌, ◌++◌, Option, Some, None}
use Rattle.std.specs.List.{AllByRecursion}
use Rattle.std.proofs.Common.{refl, sym, ap, subst, ◌∙◌, inl, inr, arith}
use Rattle.std.proofs.lemmas.List.{append_assoc, append-nil}
use Rattle.ucm_base.specs.declared.ids.CallNo.{CallNo}
use Rattle.sub_core.specs.Made.{Made}
use Rattle.client_calls.specs.Calls.{AreBelow, IsBelow, Known, Posted, Settles, entry_of}
use Rattle.client_calls.specs.Arrivals.{Arrived, IsAmong, IsOf, MayArrive, MayEnter}
use Rattle.client_calls.proofs.Arriving.{all-and, below-self, last-of, among-all, not-both}
use Rattle.master_calls.specs.Turn.{AreFirst, HasNumber, InTurn, IsDoubtIn, IsEarly, IsLater, Rounds}
use Rattle.master_calls.specs.Laws.{ArrivalsKeepTurn}

-- no answered call has a number above all answered calls
pub no-number : (at : CallNo) (ms : List Made) → HasNumber at ms → AreBelow ms at → ⊥
no-number at [] has below = absurd has
no-number at (m ∷ ms) (inl is) below = below-self at (subst (λ a. IsBelow a at) is below.0)
no-number at (m ∷ ms) (inr has) below = no-number at ms has below.1

-- what is below all is below the first and the last
pub first-below : (xs ys : List Made) (at : CallNo) → AreBelow (xs ++ ys) at → AreBelow xs at
first-below [] ys at below = tt
first-below (x ∷ xs) ys at below = (below.0, first-below xs ys at below.1)

pub last-below : (xs ys : List Made) (at : CallNo) → AreBelow (xs ++ ys) at → AreBelow ys at
last-below [] ys at below = below
last-below (x ∷ xs) ys at below = last-below xs ys at below.1

module _ (rounds : Rounds) (early later : List Posted) (are_early : AllByRecursion (IsEarly rounds) early)
    (are_later : AllByRecursion (IsLater rounds) later) where
  abbrev Turned : List Made → Option Made → Type 0
  Turned mine doubt = InTurn rounds later (record { mine = mine; doubt = doubt })

  -- the answered calls come first
  answered-below : (first ends : List Made) (at : CallNo) → AreFirst rounds first → AreBelow (first ++ ends) at
      → AreBelow rounds.answered at
  answered-below first ends at (inl is) below =
      subst (λ ms. AreBelow ms at) is (first-below first ends at below)
  answered-below first ends at (inr (p, reply, pending, is)) below =
      first-below rounds.answered (entry_of p reply ∷ []) at
      (subst (λ ms. AreBelow ms at) is (first-below first ends at below))

  -- settled, the calls are in turn without a doubt
  settled : (mine : List Made) (doubt : Option Made) (after : List Made) → Turned mine doubt
      → Settles doubt mine after → Turned after None
  settled mine None after h is = subst (λ ms. Turned ms None) (sym is) h
  settled mine (Some d) after h (inl is) = subst (λ ms. Turned ms None) (sym is) (record {
    first = h.first;
    ends = h.ends;
    split = h.split;
    of_rounds = h.of_rounds;
    of_later = h.of_later;
    doubt = tt;
  })
  settled mine (Some d) after h (inr is) = subst (λ ms. Turned ms None) (sym is) (stood h.doubt)
    where
      stood : IsDoubtIn rounds later h.first h.ends (Some d) → Turned (mine ++ d ∷ []) None
      stood (inl of) = record {
        first = h.first;
        ends = h.ends ++ d ∷ [];
        split = ap (λ ms. ms ++ d ∷ []) h.split ∙ append_assoc h.first h.ends (d ∷ []);
        of_rounds = h.of_rounds;
        of_later = all-and (IsOf later) h.ends d h.of_later of;
        doubt = tt;
      }
      stood (inr (p, reply, pending, entry, all, none)) = record {
        first = rounds.answered ++ entry_of p reply ∷ [];
        ends = [];
        split = ap (λ ms. ms ++ d ∷ []) (h.split ∙ (ap (λ ms. ms ++ h.ends) all ∙ (ap (λ ms. rounds.answered ++ ms) none
            ∙ append-nil rounds.answered))) ∙ (ap (λ e. rounds.answered ++ e ∷ []) entry
            ∙ sym (append-nil (rounds.answered ++ entry_of p reply ∷ [])));
        of_rounds = inr (p, reply, pending, refl);
        of_later = tt;
        doubt = tt;
      }

  -- the entry of a later message comes at the end
  later-enters : (p : Posted) (mine : List Made) (after : Known) → IsAmong p later → Turned mine None
      → MayEnter p mine after → InTurn rounds later after
  later-enters p mine after among h (inl is) = subst (InTurn rounds later) (sym is) h
  later-enters p mine after among h (inr (inl (reply, below, is))) = subst (InTurn rounds later) (sym is) (record {
    first = h.first;
    ends = h.ends ++ entry_of p reply ∷ [];
    split = ap (λ ms. ms ++ entry_of p reply ∷ []) h.split ∙ append_assoc h.first h.ends (entry_of p reply ∷ []);
    of_rounds = h.of_rounds;
    of_later = all-and (IsOf later) h.ends (entry_of p reply) h.of_later
        (record { post = p; among = among; number = refl; call = refl });
    doubt = tt;
  })
  later-enters p mine after among h (inr (inr (reply, below, is))) = subst (InTurn rounds later) (sym is) (record {
    first = h.first;
    ends = h.ends;
    split = h.split;
    of_rounds = h.of_rounds;
    of_later = h.of_later;
    doubt = inl (record { post = p; among = among; number = refl; call = refl });
  })

  -- behind a later entry nothing of the rounds can come
  none-later : (p : Posted) (ends : List Made) → rounds.pending ≡ Some p → AllByRecursion (IsOf later) ends
      → AreBelow ends p.at → ends ≡ []
  none-later p [] pending of below = refl
  none-later p (e ∷ es) pending of below =
      let above = (among-all (IsLater rounds) later of.0.post are_later of.0.among).pending p pending in
      absurd (not-both p.at of.0.post.at above (subst (λ a. IsBelow a p.at) of.0.number below.0))

  -- the pending message comes where nothing came after the answered calls
  at-answered : (p : Posted) (first ends : List Made) → rounds.pending ≡ Some p → AreFirst rounds first
      → AllByRecursion (IsOf later) ends → AreBelow (first ++ ends) p.at → (first ≡ rounds.answered) × (ends ≡ [])
  at-answered p first ends pending (inl is) of below = (
    is,
    none-later p ends pending of (last-below first ends p.at
        below),
  )
  at-answered p first ends pending (inr (q, reply, same, is)) of below =
      let one : q ≡ p = grind (arith, same, pending) in
      let newest = last-of (λ m. IsBelow m.at p.at) rounds.answered (entry_of q reply)
      (subst (λ ms. AreBelow ms p.at) is (first-below first ends p.at below)) in
      absurd (below-self p.at (subst (λ x. IsBelow x.at p.at) one newest))

  pending-enters : (p : Posted) (mine : List Made) (after : Known) → rounds.pending ≡ Some p → Turned mine None
      → MayEnter p mine after → InTurn rounds later after
  pending-enters p mine after pending h (inl is) = subst (InTurn rounds later) (sym is) h
  pending-enters p mine after pending h (inr (inl (reply, below, is))) = subst (InTurn rounds later) (sym is) (record {
    first = rounds.answered ++ entry_of p reply ∷ [];
    ends = [];
    split = ap (λ ms. ms ++ entry_of p reply ∷ []) (h.split ∙ (ap (λ ms. ms ++ h.ends) here.0
        ∙ (ap (λ ms. rounds.answered ++ ms) here.1 ∙ append-nil rounds.answered)))
        ∙ sym (append-nil (rounds.answered ++ entry_of p reply ∷ []));
    of_rounds = inr (p, reply, pending, refl);
    of_later = tt;
    doubt = tt;
  })
    where
      here : (h.first ≡ rounds.answered) × (h.ends ≡ [])
      here = at-answered p h.first h.ends pending h.of_rounds h.of_later (subst (λ ms. AreBelow ms p.at) h.split below)
  pending-enters p mine after pending h (inr (inr (reply, below, is))) = subst (InTurn rounds later) (sym is) (record {
    first = h.first;
    ends = h.ends;
    split = h.split;
    of_rounds = h.of_rounds;
    of_later = h.of_later;
    doubt = inr (p, reply, pending, refl, here.0, here.1);
  })
    where
      here : (h.first ≡ rounds.answered) × (h.ends ≡ [])
      here = at-answered p h.first h.ends pending h.of_rounds h.of_later (subst (λ ms. AreBelow ms p.at) h.split below)

  -- a message that was answered makes no entry
  answered-enters : (p : Posted) (mine : List Made) (after : Known) → HasNumber p.at rounds.answered
      → Turned mine None → MayEnter p mine after → InTurn rounds later after
  answered-enters p mine after has h (inl is) = subst (InTurn rounds later) (sym is) h
  answered-enters p mine after has h (inr (inl (reply, below, is))) = absurd (no-number p.at rounds.answered has
      (answered-below h.first h.ends p.at h.of_rounds (subst (λ ms. AreBelow ms p.at) h.split below)))
  answered-enters p mine after has h (inr (inr (reply, below, is))) = absurd (no-number p.at rounds.answered has
      (answered-below h.first h.ends p.at h.of_rounds (subst (λ ms. AreBelow ms p.at) h.split below)))

  which : (ls es : List Posted) (p : Posted) → IsAmong p (ls ++ es) → IsAmong p ls ⊎ IsAmong p es
  which [] es p h = inr h
  which (l ∷ ls) es p (inl is) = inl (inl is)
  which (l ∷ ls) es p (inr h) = elim (which ls es p h) [ inl x ↦ inl (inr x) | inr x ↦ inr x ]

  one-enters : (p : Posted) (mine : List Made) (after : Known) → IsAmong p later ⊎ IsAmong p early → Turned mine None
      → MayEnter p mine after → InTurn rounds later after
  one-enters p mine after (inl among) h enters = later-enters p mine after among h enters
  one-enters p mine after (inr among) h enters = go (among-all (IsEarly rounds) early p are_early among)
    where
      go : IsEarly rounds p → InTurn rounds later after
      go (inl has) = answered-enters p mine after has h enters
      go (inr pending) = pending-enters p mine after pending h enters

  one-arrives : (p : Posted) (known after : Known) → IsAmong p (later ++ early) → InTurn rounds later known
      → MayArrive p known after → InTurn rounds later after
  one-arrives p known after among h (inl is) = subst (InTurn rounds later) (sym is) h
  one-arrives p known after among h (inr (mine, settles, enters)) =
      one-enters p mine after (which later early p among) (settled known.mine known.doubt mine h settles) enters

  all-arrive : (came : List Posted) (known after : Known) → AllByRecursion (λ p. IsAmong p (later ++ early)) came
      → InTurn rounds later known → Arrived came known after → InTurn rounds later after
  all-arrive [] known after among h is = subst (InTurn rounds later) (sym is) h
  all-arrive (p ∷ ps) known after among h (then, first, rest) =
      all-arrive ps then after among.1 (one-arrives p known then among.0 h first) rest

pub arrivals-keep : ArrivalsKeepTurn
arrivals-keep rounds early later known after are_early are_later h come =
    all-arrive rounds early later are_early are_later come.came known after come.among h come.arrived
