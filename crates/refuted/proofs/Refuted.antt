-- Every wrong version is refuted.
use Rattle.refuted.specs.Refuted.{Refuted}
use Rattle.refuted.proofs.Steps.{step_refuses_lem, reader_refuses_lem, status_fixed_lem, write_lazy_lem, time_lazy_lem, rst_cleared_lem, zero_written_lem, triplet, crc_plain_lem}
use Rattle.refuted.proofs.Searches.{ours, rules, search_refuses_lem, list_fixed_lem, line_left_lem, probe_stays_lem, state_left_lem, passes_made_up_lem, passes_listed_lem, numbers, one_noted_lem, list_again_lem}
use Rattle.refuted.proofs.Levels.{presence_needed_lem, search_needed_lem}
use Rattle.refuted.proofs.Swaps.{mark_kept_lem}

pub refuted : Refuted
refuted =
    record {
      ours = ours;
      rules = rules;
      triplet = triplet;
      search_refuses = search_refuses_lem;
      step_refuses = step_refuses_lem;
      reader_refuses = reader_refuses_lem;
      list_fixed = list_fixed_lem;
      status_fixed = status_fixed_lem;
      write_lazy = write_lazy_lem;
      time_lazy = time_lazy_lem;
      line_left = line_left_lem;
      state_left = state_left_lem;
      passes_made_up = passes_made_up_lem;
      passes_listed = passes_listed_lem;
      numbers = numbers;
      one_noted = one_noted_lem;
      list_again = list_again_lem;
      rst_cleared = rst_cleared_lem;
      zero_written = zero_written_lem;
      crc_plain = crc_plain_lem;
      presence_needed = presence_needed_lem;
      search_needed = search_needed_lem;
      probe_stays = probe_stays_lem;
      mark_kept = mark_kept_lem;
    }
