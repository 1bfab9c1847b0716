use Rattle.sub_core.proofs.Counting.{answers_are_of_kind, numbers_last, rests_stay, units_tell}
use Rattle.sub_core.proofs.Findings.{done_is_found, findings_are_shown, misses_are_kept, replies_fit, sends_are_numbered}
use Rattle.sub_core.proofs.Misses.{unreached_is_found}
use Rattle.sub_core.proofs.Onward.{done_leads_to_units, end_begins_with_sync, end_goes_on, listed_are_deleted, refusals_lead_to_sync}
use Rattle.sub_core.proofs.Sending.{calls_are_next, end_is_found, replies_are_read, sends_are_allowed}
use Rattle.sub_core.proofs.Turns.{calls_are_in_turn, end_is_asked, end_is_made, messages_are_in_turn, rounds_are_made, votes_are_made}
use Rattle.sub_core.proofs.Units.{others_leave_all, units_are_due}
use Rattle.sub_core.proofs.Votes.{votes_are_found}
use Rattle.sub_core.proofs.laws.driver_law.Goals as goal

pub returns : goal.returns
returns c =
    let law = c.campaign_law.ensures in
    record {
      allowed = sends_are_allowed law.by_size law.attempts;
      numbered = sends_are_numbered law.by_size;
      shown = findings_are_shown law.by_size law.ends;
      found = done_is_found law.by_size law.ends;
      voted = votes_are_found law.by_size;
      ended = end_is_found law.by_size;
      unreached = unreached_is_found law.by_size;
      missed = misses_are_kept law.by_size;
      units = units_are_due law.by_size;
      others = others_leave_all;
      calls = calls_are_next law.by_size;
      read = replies_are_read law.by_size law.attempts;
      fit = replies_fit law.by_size;
      rounds = rounds_are_made law.by_size;
      votes = votes_are_made law.by_size law.ends;
      turns = calls_are_in_turn law.by_size;
      messages = messages_are_in_turn law.by_size;
      at_end = end_is_asked law.by_size;
      rest = end_is_made law.by_size;
      begins = end_begins_with_sync law.by_size;
      goes_on = end_goes_on law.by_size;
      deletes = listed_are_deleted law.by_size;
      done = done_leads_to_units law.by_size;
      refused = refusals_lead_to_sync law.by_size;
      kinds = answers_are_of_kind;
      told = units_tell;
      rests = rests_stay;
      last = numbers_last law.by_size;
    }
