-- What the code computes with: a step's rows, and the outcome of a run over numbers.
use Rattle.std.specs.Prelude.{ℕ, suc, ◌-◌, Bool, ◌&&◌, ◌||◌, List, [], length, get_or, ltb}
use Rattle.records.specs.Outcome.{Outcome, Check, accepted, ◌then◌, require}
use Rattle.scripts.specs.Format.{next_step, record_step, chain_from, chain}
use Rattle.scripts.specs.Calculus.{frame_limit}
use Rattle.scripts.specs.Run.{Frames, extend_by, step_check, stepped, run, chain_check}
use Rattle.records.specs.Finite.{is_nil, without}
use Rattle.scripts.specs.Code.Codes.{opposed}
use Rattle.scripts.specs.Code.Machine.{last_goal}
use Rattle.scripts.specs.Code.Numbered.{no_number, numbered}

-- Rows 21 and 23 at an extension by a column, whose literal at the position is connected.
abbrev pub extension_check : List ℕ → ℕ → ℕ → Frames ℕ → Check
extension_check column position i frames =
    require (opposed (get_or column position no_number) (last_goal frames)) 21 i
    then require (is_nil (without position column) || ltb (length frames) frame_limit) 23 i

-- The frames after one.
abbrev pub extended : List ℕ → ℕ → Frames ℕ → Frames ℕ
extended column position frames = extend_by (without position column) frames

-- Row 22: frame f is below the last, and its goal is the complement.
abbrev pub reduces_to : Frames ℕ → ℕ → Bool
reduces_to frames f =
    ltb (suc f) (length frames)
    && opposed (get_or (get_or frames (length frames - suc f) []) 0 no_number) (last_goal frames)

-- The rows at the step of record i, and the frames after it.
abbrev pub check_at : List ℕ → List ℕ → ℕ → Frames ℕ → Check
check_at v s i frames = step_check (numbered v s) i frames (record_step s i)

abbrev pub stepped_at : List ℕ → List ℕ → ℕ → Frames ℕ → Frames ℕ
stepped_at v s i frames = stepped (numbered v s) frames (record_step s i)

-- The steps after record i, and the outcome of a run over them.
abbrev pub steps_after : List ℕ → ℕ → List ℕ
steps_after s i = chain_from s (next_step s i)

abbrev pub run_after : List ℕ → List ℕ → Frames ℕ → ℕ → Outcome ℕ
run_after v s frames first =
    run (numbered v s) (record_step s) frames first (steps_after s first) then accepted (suc (length (steps_after s first)))

-- The outcome of a start, record `first`, and the steps after it.
abbrev pub start_outcome : List ℕ → List ℕ → ℕ → Outcome ℕ
start_outcome v s first = run_after v s (stepped (numbered v s) [] (record_step s first)) first

-- The outcome of the chain.
abbrev pub chain_outcome : List ℕ → List ℕ → Outcome ℕ
chain_outcome v s = chain_check (numbered v s) (record_step s) (chain s) then accepted (length (chain s))
