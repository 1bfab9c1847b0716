-- A worker goes on by one attempt, or ends with it.
use Rattle.std.proofs.Common.{◌≡◌, inl, inr, ℕ, true, false, is_some, List, [], ◌∷◌, ◌++◌, Option, Some, None, refl, sym, ap, subst, ◌∙◌, arith}
use Rattle.std.specs.List.{AllByRecursion}
use Rattle.ucm_base.specs.declared.ids.CallNo.{CallNo}
use Rattle.pm_types.specs.declared.calls.Call.{Call}
use Rattle.sub_core.specs.declared.answers.Finding.{Finding}
use Rattle.sub_core.specs.declared.answers.Got.{Got}
use Rattle.sub_core.specs.declared.answers.Todo.{Todo}
use Rattle.sub_core.specs.declared.subordinate.Sent.{Sent}
use Rattle.sub_core.specs.declared.subordinate.UnitSent.{UnitSent}
use Rattle.sub_core.specs.Calls.{bytes_of, AreThere}
use Rattle.sub_core.specs.declared.answers.Round.{Round}
use Rattle.sub_core.specs.Driving.{begun, has_number, next_no, step, todo, unanswered, CanBegin}
use Rattle.sub_core.specs.Given.{AreGiven, Asks, Begun, Gave, GaveNothing, Given, Task, after, given, is_asked, since}
use Rattle.sub_core.specs.Numbers.{IsLater, IsNotBelow}
use Rattle.sub_core.specs.States.{DriverState}
use Rattle.sub_core.specs.Subordinates.{Counted}
use Rattle.sub_workers.specs.declared.worker.Worker.{Worker}
use Rattle.sub_workers.specs.Attempts.{IsTried}
use Rattle.sub_workers.specs.Runs.{AreCounted, AsksBlock, Drove, EndsAtVain, Goes, IsAnswered, IsReady, IsSameWorker, Ran}
use Rattle.sub_workers.proofs.Counting.{counted_along}

-- where each attempt gave an answer
ends_at_vain : (given : List Given) → AllByRecursion IsAnswered given → EndsAtVain given
ends_at_vain [] all = tt
ends_at_vain (g ∷ given) all = all.1

-- a later number isn't below what the earlier one wasn't
number_on : (last : Option CallNo) (d e : DriverState) → IsNotBelow last (next_no d) → IsLater d e
    → IsNotBelow last (next_no e)
number_on None d e above later = tt
number_on (Some n) d e (inl less) later = inl (rw later.epoch less)
number_on (Some n) d e (inr same) later = inr (same.0 ∙ sym later.epoch, omega (arith, same.1, later.number))

module _ {U : Type 0} (ready : U → Type 0) (last : U → Option CallNo) where
  -- a worker whose driver goes on stays ready
  pub ready_on : (w : Worker U) (e : DriverState) → IsReady ready last w → IsLater w.driver e
      → IsReady ready last (record { subordinate = w.subordinate; driver = e; packages = w.packages; found = w.found })
  ready_on w e is later = record {
    subordinate = is.subordinate;
    packages = subst (AreThere (bytes_of w.packages.now)) (sym later.steps) is.packages;
    number = number_on (last w.subordinate) w.driver e is.number later;
  }

module _ {U : Type 0} (last : U → Option CallNo) (counted : U → Counted) (sends : U → CallNo → Call → Sent → U → Type 0)
    (works : U → UnitSent → U → Type 0) where
  -- the worker has gone from its old state to here
  abbrev pub HasGone : Worker U → Worker U → Type 0
  HasGone old w =
      (given : List Given)
      × Goes last counted sends works (bytes_of old.packages.now) old.driver given old.subordinate w.subordinate
      × (w.driver ≡ since old.driver given)
      × AllByRecursion IsAnswered given

  tried_asked : (packages : List (List ℕ)) (t : Todo) (got : Option Got) (s m : U)
      → IsTried last counted sends works packages t got s m → is_asked t ≡ true
  tried_asked packages (Todo.Send at step) got s m tried = refl
  tried_asked packages Todo.Unit got s m tried = refl
  tried_asked packages (Todo.Rest finding) got s m tried = absurd tried

  module _ (old w m : Worker U) (packages : w.packages ≡ old.packages) (gone : HasGone old w) (same : IsSameWorker w m)
      (has_begun : is_some w.driver.round ≡ true) (number : has_number w.driver ≡ true) where
    -- what was tried, in the words of the driver that stands for what was given
    asked_now : (got : Option Got)
        → IsTried last counted sends works (bytes_of w.packages.now) (todo w.driver) got w.subordinate m.subordinate
        → Asks (since old.driver gone.0)
        × IsTried last counted sends works (bytes_of old.packages.now) (todo (since old.driver gone.0)) got
        w.subordinate m.subordinate
    asked_now got tried = (
      subst Asks gone.2 (record {
        begun = has_begun;
        number = number;
        asked = tried_asked (bytes_of w.packages.now) (todo w.driver) got w.subordinate m.subordinate tried;
      }),
      subst
          (λ d. IsTried last counted sends works (bytes_of old.packages.now) (todo d) got w.subordinate m.subordinate)
          gone.2
          (subst
          (λ p. IsTried last counted sends works (bytes_of p.now) (todo w.driver) got w.subordinate m.subordinate)
          packages
          tried),
    )

    -- an attempt gave an answer
    pub gone_on : (got : Got) (e : DriverState)
        → IsTried last counted sends works (bytes_of w.packages.now) (todo w.driver) (Some got) w.subordinate
        m.subordinate
        → e ≡ step got m.driver
        → (given : List Given)
        × Goes last counted sends works (bytes_of old.packages.now) old.driver given old.subordinate m.subordinate
        × (e ≡ since old.driver given)
        × AllByRecursion IsAnswered given
    gone_on got e tried told = (
      Gave got ∷ gone.0,
      (w.subordinate, gone.1, asked_now (Some got) tried),
      told ∙ (ap (step got) same.driver ∙ ap (step got) gone.2),
      (tt, gone.3),
    )

    -- the last attempt gave nothing
    pub gone_nothing : (e : DriverState)
        → IsTried last counted sends works (bytes_of w.packages.now) (todo w.driver) None w.subordinate m.subordinate
        → e ≡ unanswered m.driver → e.round ≡ m.driver.round → w.driver.round ≡ old.driver.round → w.found ≡ None
        → Drove last counted sends works old.driver old
        (record { subordinate = m.subordinate; driver = e; packages = m.packages; found = m.found })
    gone_nothing e tried told round kept found = record {
      packages = same.packages ∙ packages;
      round = round ∙ (ap (λ d. d.round) same.driver ∙ kept);
      given = GaveNothing ∷ gone.0;
      goes = (w.subordinate, gone.1, asked_now None tried);
      vain = gone.3;
      driver = told ∙ (ap unanswered same.driver ∙ ap unanswered gone.2);
      holds = inr (same.found ∙ found, inr (inl tt));
    }

  -- no number is left
  pub stopped : (old w : Worker U) → w.packages ≡ old.packages → w.driver.round ≡ old.driver.round → w.found ≡ None
      → has_number w.driver ≡ false → HasGone old w → Drove last counted sends works old.driver old w
  stopped old w packages round found has gone = record {
    packages = packages;
    round = round;
    given = gone.0;
    goes = gone.1;
    vain = ends_at_vain gone.0 gone.3;
    driver = gone.2;
    holds = inr (found, inl has);
  }

  module _ (old w m : Worker U) (packages : w.packages ≡ old.packages) (round : w.driver.round ≡ old.driver.round)
      (gone : HasGone old w) (same : IsSameWorker w m) (stays : m.subordinate ≡ w.subordinate) where
    goes_still : Goes last counted sends works (bytes_of old.packages.now) old.driver gone.0 old.subordinate
        m.subordinate
    goes_still =
        subst (λ t. Goes last counted sends works (bytes_of old.packages.now) old.driver gone.0 old.subordinate t)
        (sym stays) gone.1

    -- the block that comes next couldn't be copied
    pub failed : w.found ≡ None → AsksBlock (todo w.driver) → Drove last counted sends works old.driver old m
    failed found block = record {
      packages = same.packages ∙ packages;
      round = ap (λ d. d.round) same.driver ∙ round;
      given = gone.0;
      goes = goes_still;
      vain = ends_at_vain gone.0 gone.3;
      driver = same.driver ∙ gone.2;
      holds = inr (same.found ∙ found, inr (inr (subst (λ d. AsksBlock (todo d)) (sym same.driver) block)));
    }

    -- the driver rests
    pub rested : (finding : Finding) → todo w.driver ≡ Todo.Rest finding
        → Drove last counted sends works old.driver old
        (record { subordinate = m.subordinate; driver = m.driver; packages = m.packages; found = Some finding })
    rested finding rests = record {
      packages = same.packages ∙ packages;
      round = ap (λ d. d.round) same.driver ∙ round;
      given = gone.0;
      goes = goes_still;
      vain = ends_at_vain gone.0 gone.3;
      driver = same.driver ∙ gone.2;
      holds = inl (finding, ap todo same.driver ∙ rests, refl);
    }

  -- what a driver was given in a round goes on what it was given before
  since_more : (d : DriverState) (task : Task) (before now : List Given) → d ≡ after task before
      → since d now ≡ after task (now ++ before)
  since_more d task before [] is = is
  since_more d task before (g ∷ now) is = ap (given g) (since_more d task before now is)

  given_more : (packages : List (List ℕ)) (d : DriverState) (task : Task) (before now : List Given) (s t : U)
      → d ≡ after task before → AreGiven task before → Goes last counted sends works packages d now s t
      → AreGiven task (now ++ before)
  given_more packages d task before [] s t is are goes = are
  given_more packages d task before (Begun round ∷ now) s t is are goes = absurd goes.2
  given_more packages d task before (Gave got ∷ now) s t is are goes = (
    subst Asks (since_more d task before now is) goes.2.0,
    given_more packages d task before now s goes.0 is are
        goes.1,
  )
  given_more packages d task before (GaveNothing ∷ now) s t is are goes = (
    subst Asks (since_more d task before now is) goes.2.0,
    given_more packages d task before now s goes.0 is are
        goes.1,
  )

  pub ran : (round : Round) (old new : Worker U) → CanBegin round old.driver
      → Drove last counted sends works (begun round old.driver) old new → Ran last counted sends works round old new
  ran round old new can drove = record {
    drove = drove;
    round_kept = drove.round;
    misses = subst (λ d. AreCounted d.misses (counted old.subordinate) (counted new.subordinate)) (sym drove.driver)
        (counted_along last counted sends works (bytes_of old.packages.now) (begun round old.driver) refl drove.given
        old.subordinate new.subordinate drove.goes);
    driver = λ task before is are.
        let start : begun round old.driver ≡ after task (Begun round ∷ before) = ap (begun round) is in (
          given_more (bytes_of old.packages.now) (begun round old.driver) task (Begun round ∷ before) drove.given
              old.subordinate new.subordinate start (subst (CanBegin round) is can, are) drove.goes,
          drove.driver ∙ since_more (begun round old.driver) task (Begun round ∷ before) drove.given start,
        );
  }

  -- the same, where the driver began its round just before
  pub ran_begun : (round : Round) (old new : Worker U) (e : DriverState) → CanBegin round old.driver
      → e ≡ begun round old.driver
      → Drove last counted sends works e
      (record { subordinate = old.subordinate; driver = e; packages = old.packages; found = old.found }) new
      → Ran last counted sends works round old new
  ran_begun round old new e can is drove =
      ran round old new can (subst (λ x. Drove last counted sends works x old new) is (record {
        packages = drove.packages;
        round = drove.round;
        given = drove.given;
        goes = drove.goes;
        vain = drove.vain;
        driver = drove.driver;
        holds = drove.holds;
      }))
