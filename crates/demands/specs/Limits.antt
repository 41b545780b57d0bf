-- The papers' figures, and the names by which definitions, code and laws cite them.
use Rattle.std.specs.Prelude.{◌≡◌}
use Rattle.records.specs.Format.{record_size, record_limit, role_limit}
use Rattle.types.specs.Comparison.{atom_limit, bitmap_bytes}
use Rattle.taxonomy.specs.Taxonomy.{taxonomy_bytes}
use Rattle.scripts.specs.Format.{entry_size, entry_limit}
use Rattle.scripts.specs.Calculus.{frame_limit}

-- The promise: each name stands for the paper's figure. "A record is 8 bytes", "At most 512 records, header included", "the
-- number of roles (0 to 64)"; "k over 12", "under 512 bytes lent", slip 1: "the first 144"; "eight numbers w0 to w7, 16 bytes; at
-- most 2,048 records"; "At most 64 frames."
pub record Limits : Type 0 where
  pub record_size_lem : record_size ≡ 8
  pub record_limit_lem : record_limit ≡ 512
  pub role_limit_lem : role_limit ≡ 64
  pub atom_limit_lem : atom_limit ≡ 12
  pub bitmap_bytes_lem : bitmap_bytes ≡ 512
  pub taxonomy_bytes_lem : taxonomy_bytes ≡ 144
  pub entry_size_lem : entry_size ≡ 16
  pub entry_limit_lem : entry_limit ≡ 2048
  pub frame_limit_lem : frame_limit ≡ 64
