-- Runs of calls of a staging that read, and of which one puts.
use Rattle.std.specs.Prelude.{◌≢◌, Ok, Err}
use Rattle.transfer_blocks.specs.declared.fault.StagingError.{StagingError}
use Rattle.transfer_blocks.specs.declared.fault.StagingError.TheVariants.{Failed}
use Rattle.transfer_blocks.specs.declared.area.Area.{Area}
use Rattle.transfer_blocks.specs.Steps.{End, Step, puts, gets, IsDone, HasNoFault, with_bytes, wrote}
use Rattle.transfer_blocks.proofs.Runs.{ran_both, wrote_both}
use Rattle.node_core.proofs.Names.{AllByRecursion, Areas, Bytes, List, ap, arith, each-append, each-imp, length, refl, subst, [], ℕ}
use Rattle.node_core.proofs.Names.{◌++◌, ◌∙◌, ◌∷◌, ◌≡◌}
use Rattle.node_core.specs.Reserves.{IsPut, IsRead, Reads, Writes, puts_of}

-- reading leaves what areas hold, and puts nothing
pub reads-wrote : (steps : List Step) → AllByRecursion IsRead steps → (areas : Areas) → wrote steps areas ≡ areas
reads-wrote [] all areas = refl
reads-wrote (puts area at bytes end ∷ steps) all areas = absurd all.0
reads-wrote (gets end ∷ steps) all areas = reads-wrote steps all.1 areas

pub reads-puts : (steps more : List Step) → AllByRecursion IsRead steps → puts_of (steps ++ more) ≡ puts_of more
reads-puts [] more all = refl
reads-puts (puts area at bytes end ∷ steps) more all = absurd all.0
reads-puts (gets end ∷ steps) more all = reads-puts steps more all.1

pub reads-once : (steps : List Step) → AllByRecursion IsRead steps → puts_of steps ≡ []
reads-once [] all = refl
reads-once (puts area at bytes end ∷ steps) all = absurd all.0
reads-once (gets end ∷ steps) all = reads-once steps all.1

-- what succeeded met no fault
pub ok-faultless : let ok : End = Ok tt in ok ≢ Err Failed
ok-faultless e = absurd (cc e)

module _ {S : Type 0} (obeys : S → Step → S → Type 0) where
  pub reads-none : (end : End) (a : S) → Reads obeys end a a
  reads-none end a = record { steps = []; ran = refl; reads = tt; done = λ e. tt; faultless = λ e. tt }

  pub reads-one : (end : End) (a b : S) → obeys a (gets end) b → Reads obeys end a b
  reads-one end a b obeyed = record {
    steps = gets end ∷ [];
    ran = (b, obeyed, refl);
    reads = (tt, tt);
    done = λ e. (e, tt);
    faultless = λ e. (e, tt);
  }

  pub reads-then : (end : End) (a b c : S) → Reads obeys (Ok tt) a b → Reads obeys end b c → Reads obeys end a c
  reads-then end a b c first then = record {
    steps = first.steps ++ then.steps;
    ran = ran_both obeys first.steps then.steps a b c first.ran then.ran;
    reads = each-append IsRead first.steps then.steps first.reads then.reads;
    done = λ e. each-append IsDone first.steps then.steps (first.done refl) (then.done e);
    faultless = λ e. each-append HasNoFault first.steps then.steps (first.faultless ok-faultless) (then.faultless e);
  }

  module _ (area : Area) (at : ℕ) (bytes : Bytes) where
    is-put : (step : Step) → IsRead step → IsPut area at bytes step
    is-put (puts other place other_bytes end) read = absurd read
    is-put (gets end) read = tt

    pub writes-one : (end : End) (a b : S) → obeys a (puts area at bytes end) b → Writes obeys area at bytes end a b
    writes-one end a b obeyed = record {
      steps = puts area at bytes end ∷ [];
      ran = (b, obeyed, refl);
      once = omega arith;
      only = ((refl, refl, refl), tt);
      done = λ e. (e, tt);
      faultless = λ e. (e, tt);
      put = λ e held. refl;
    }

    -- reading failed, so nothing was put
    pub writes-failed : (fault : StagingError) (a b : S) → Reads obeys (Err fault) a b
        → Writes obeys area at bytes (Err fault) a b
    writes-failed fault a b reads = record {
      steps = reads.steps;
      ran = reads.ran;
      once = omega (arith, ap length (reads-once reads.steps reads.reads));
      only = each-imp IsRead (IsPut area at bytes) is-put reads.steps reads.reads;
      done = λ e. absurd (cc e);
      faultless = reads.faultless;
      put = λ e. absurd (cc e);
    }

    -- what was read, and was to be put
    pub writes-copied : (end : End) (a b c : S) (got : Bytes) → got ≡ bytes → obeys a (gets (Ok tt)) b
        → obeys b (puts area at got end) c → Writes obeys area at bytes end a c
    writes-copied end a b c got same read put = record {
      steps = gets (Ok tt) ∷ puts area at bytes end ∷ [];
      ran = (b, read, (c, subst (λ (xs : Bytes). obeys b (puts area at xs end) c) same put, refl));
      once = omega arith;
      only = (tt, ((refl, refl, refl), tt));
      done = λ e. (refl, (e, tt));
      faultless = λ e. (ok-faultless, (e, tt));
      put = λ e held. refl;
    }

    pub writes-then : (end : End) (a b c : S) → Reads obeys (Ok tt) a b → Writes obeys area at bytes end b c
        → Writes obeys area at bytes end a c
    writes-then end a b c first then = record {
      steps = first.steps ++ then.steps;
      ran = ran_both obeys first.steps then.steps a b c first.ran then.ran;
      once = let one = then.once in omega (arith, one, ap length (reads-puts first.steps then.steps first.reads));
      only = each-append (IsPut area at bytes) first.steps then.steps
          (each-imp IsRead (IsPut area at bytes) is-put first.steps first.reads) then.only;
      done = λ e. each-append IsDone first.steps then.steps (first.done refl) (then.done e);
      faultless = λ e. each-append HasNoFault first.steps then.steps (first.faultless ok-faultless) (then.faultless e);
      put = λ e held. wrote_both first.steps then.steps held ∙ then.put e (wrote first.steps held)
          ∙ ap (with_bytes area at bytes) (reads-wrote first.steps first.reads held);
    }
