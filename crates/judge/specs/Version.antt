-- The library's version.
use Rattle.std.specs.Prelude.{ℕ, ◌+◌, ◌*◌, ◌^◌}

-- Major, minor and patch number, each below 256: "the version's minor number counts the change requests that have landed"
-- (include/judge.h). It moves with each landing; a wrapper that finds another at the shared object does not use it.
abbrev pub version : ℕ
version = 1 * 2 ^ 16 + 5 * 2 ^ 8 + 1
