-- A vote is found wherever its evidence is.
use Rattle.std.proofs.Common.{◌≡◌, true, false, refl, sym, ap, subst, ◌∙◌, Option, List}
use Rattle.ucm_base.specs.declared.ids.CallNo.{CallNo}
use Rattle.pm_types.specs.declared.replies.Refusal.{Refusal}
use Rattle.pm_types.specs.declared.status.Status.TheVariants.{Activated, RolledBack}
use Rattle.world.specs.Messages.{Told}
use Rattle.world.specs.Sends.{has_refusal, showed_after_activate}
use Rattle.world.specs.RoundsBySize.{GoesBySize}
use Rattle.sub_core.specs.declared.answers.Finding.{Finding}
use Rattle.sub_core.specs.declared.answers.Round.{Round}
use Rattle.sub_core.specs.declared.progress.Progress.{Progress}
use Rattle.sub_core.specs.declared.progress.Wish.{Wish}
use Rattle.sub_core.specs.Driving.{todo_for, wish_at, IsBeforeEnd}
use Rattle.sub_core.specs.Evidence.{VotesAreFound}
use Rattle.sub_core.specs.Given.{after, told_of}
use Rattle.sub_core.specs.States.{DriverState}
use Rattle.sub_core.proofs.Journeys.{stands}
use Rattle.sub_core.proofs.Kept.{IsWithin}
use Rattle.sub_core.proofs.Told.{ToldAt}
use Rattle.sub_core.proofs.Units.{after_activate, refusal_told}

-- it rests with a refusal
record IsRefused (d : DriverState) (p : Progress) : Type 0 where
  call_no : CallNo
  why : Refusal
  wish : wish_at d p ≡ Wish.Rest (Finding.Refused call_no why)

module _ (d : DriverState) (r : Option Round) (told : List Told) (rounds : IsBeforeEnd r) where
  refused : (p : Progress) → IsWithin r p → ToldAt d.campaign d.epoch p told → has_refusal told ≡ true
      → IsRefused d p
  refused Progress.Sync within t is = absurd (cc (sym t.0 ∙ is))
  refused Progress.Transfer within t is = absurd (cc (sym t.0 ∙ is))
  refused (Progress.Data id counter left) within t is = absurd (cc (sym t.0 ∙ is))
  refused (Progress.Process taken settled) within t is = absurd (cc (sym t.0 ∙ is))
  refused Progress.Activating within t is = absurd (cc (sym t.1 ∙ is))
  refused (Progress.Voted Finding.Yes) within t is = absurd (cc (sym t.1 ∙ is))
  refused (Progress.Voted Finding.RolledBack) within t is = absurd (cc (sym t.1 ∙ is))
  refused (Progress.Voted (Finding.Refused call_no why)) within t is =
      record { call_no = call_no; why = why; wish = refl }
  refused (Progress.Voted Finding.RoundDone) within t is = absurd within
  refused (Progress.Voted (Finding.Unreached losses faults)) within t is = absurd within
  refused (Progress.Voted (Finding.Ended call_no)) within t is = absurd within
  refused (Progress.Ending commit at) within t is = absurd (subst IsBeforeEnd within rounds)

  activated : (p : Progress) → IsWithin r p → ToldAt d.campaign d.epoch p told → has_refusal told ≡ false
      → showed_after_activate Activated told ≡ true → wish_at d p ≡ Wish.Rest Finding.Yes
  activated Progress.Sync within t none is = absurd (cc (sym t.2 ∙ after_activate d Activated told is))
  activated Progress.Transfer within t none is = absurd (cc (sym t.2 ∙ after_activate d Activated told is))
  activated (Progress.Data id counter left) within t none is =
      absurd (cc (sym t.2 ∙ after_activate d Activated told is))
  activated (Progress.Process taken settled) within t none is =
      absurd (cc (sym t.2 ∙ after_activate d Activated told is))
  activated Progress.Activating within t none is = absurd (cc (sym t.2 ∙ is))
  activated (Progress.Voted Finding.Yes) within t none is = refl
  activated (Progress.Voted Finding.RolledBack) within t none is = absurd (cc (sym t.2 ∙ is))
  activated (Progress.Voted (Finding.Refused call_no why)) within t none is =
      absurd (cc (sym (refusal_told d call_no why told t) ∙ none))
  activated (Progress.Voted Finding.RoundDone) within t none is = absurd within
  activated (Progress.Voted (Finding.Unreached losses faults)) within t none is = absurd within
  activated (Progress.Voted (Finding.Ended call_no)) within t none is = absurd within
  activated (Progress.Ending commit at) within t none is = absurd (subst IsBeforeEnd within rounds)

  rolled_back : (p : Progress) → IsWithin r p → ToldAt d.campaign d.epoch p told → has_refusal told ≡ false
      → showed_after_activate RolledBack told ≡ true → wish_at d p ≡ Wish.Rest Finding.RolledBack
  rolled_back Progress.Sync within t none is = absurd (cc (sym t.2 ∙ after_activate d RolledBack told is))
  rolled_back Progress.Transfer within t none is = absurd (cc (sym t.2 ∙ after_activate d RolledBack told is))
  rolled_back (Progress.Data id counter left) within t none is =
      absurd (cc (sym t.2 ∙ after_activate d RolledBack told is))
  rolled_back (Progress.Process taken settled) within t none is =
      absurd (cc (sym t.2 ∙ after_activate d RolledBack told is))
  rolled_back Progress.Activating within t none is = absurd (cc (sym t.3 ∙ is))
  rolled_back (Progress.Voted Finding.Yes) within t none is = absurd (cc (sym t.2 ∙ is))
  rolled_back (Progress.Voted Finding.RolledBack) within t none is = refl
  rolled_back (Progress.Voted (Finding.Refused call_no why)) within t none is =
      absurd (cc (sym (refusal_told d call_no why told t) ∙ none))
  rolled_back (Progress.Voted Finding.RoundDone) within t none is = absurd within
  rolled_back (Progress.Voted (Finding.Unreached losses faults)) within t none is = absurd within
  rolled_back (Progress.Voted (Finding.Ended call_no)) within t none is = absurd within
  rolled_back (Progress.Ending commit at) within t none is = absurd (subst IsBeforeEnd within rounds)

pub votes_are_found : GoesBySize → VotesAreFound
votes_are_found by_size lent task gs is given_ rounds =
    let d = after task gs in
    let told = told_of lent task gs in
    let kept = (stands by_size lent task is gs given_).kept in (
      λ refusal.
          (let so = refused d d.round told rounds d.progress kept.within kept.told refusal in
          (so.call_no, so.why, ap (todo_for d) so.wish)),
      λ none shown. ap (todo_for d) (activated d d.round told rounds d.progress kept.within kept.told none shown),
      λ none shown. ap (todo_for d) (rolled_back d d.round told rounds d.progress kept.within kept.told none shown),
    )
