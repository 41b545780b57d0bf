-- What is computed: the samples of the paper, and its figures.
-- Assumes nothing.
use mathlib.Core.Path.{refl}
use Rattle.records.specs.Format.{record_at}
use Rattle.records.specs.Kinds.{kind_of}
use Rattle.records.specs.Outcome.{in_turn}
use Rattle.records.specs.Finite.{any_below, occurs, all_below, least, list_below, table, members, bit, number, unrolled, without}
use Rattle.records.specs.Finite.{all_zero, last_or}
use Rattle.records.specs.Check.{record_check, link_check, records_check, vocabulary_rows, vocabulary_check}
use Rattle.records.specs.Call.{record_call}
use Rattle.records.specs.Chain.{follow}
use Rattle.records.specs.Atoms.{rank}
use Rattle.writer.specs.Additions.{grown}
use Rattle.writer.specs.Calls.{making, addition, adding}
use Rattle.types.specs.Types.{truth, allowed, served}
use Rattle.types.specs.Survivors.{satisfies, stage, rounds, survivors}
use Rattle.types.specs.Comparison.{verdict, comparison}
use Rattle.types.specs.Bitmap.{bitmap}
use Rattle.taxonomy.specs.Taxonomy.{broader, entry, taxonomy, classification}
use Rattle.columns.specs.Literals.{same_term, complementary}
use Rattle.columns.specs.Columns.{columns_at, takes_y}
use Rattle.scripts.specs.Format as script
use Rattle.scripts.specs.Form as form'
use Rattle.scripts.specs.Run.{close, extend_by, step_check, stepped, run, chain_check, script_check}
use Rattle.demands.specs.Limits.{Limits}
use Rattle.demands.specs.Samples.{opening, Samples}

pub limits : Limits
limits =
    record {
      record_size_lem = refl;
      record_limit_lem = refl;
      role_limit_lem = refl;
      atom_limit_lem = refl;
      bitmap_bytes_lem = refl;
      taxonomy_bytes_lem = refl;
      entry_size_lem = refl;
      entry_limit_lem = refl;
      frame_limit_lem = refl;
    }

pub samples : Samples
unfolding record_at kind_of in_turn any_below record_check link_check records_check vocabulary_rows vocabulary_check follow occurs all_below least table members bit number unrolled rank truth allowed served satisfies stage rounds survivors verdict comparison bitmap list_below broader entry taxonomy classification same_term complementary columns_at takes_y script.entry_at script.kind_of script.term_at all_zero form'.entry_check form'.link_check form'.form_check without close extend_by step_check stepped run chain_check script_check last_or grown making addition adding record_call opening
samples = refl
