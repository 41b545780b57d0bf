-- `demands::hold` meets its contract: the statements are proved.
-- Assumes nothing.
use Rattle.demands.proofs.Theorems.Demands.{demand_1, demand_2, demand_3}
use Rattle.demands.proofs.Theorems.Promises as promised
use Rattle.demands.proofs.Theorems.Samples as sampled
use Rattle.demands.proofs.hold.Goals as goal

pub returns : goal.returns
returns c =
    record {
      demand1 = demand_1;
      demand2 = demand_2;
      demand3 = demand_3;
      chains_end = promised.chains_end;
      writes_survivors = promised.writes-survivors;
      nearest_names = promised.nearest_names;
      writes_vocabularies = promised.writes_vocabularies;
      editions_agree = promised.editions_agree;
      editions_convert = promised.editions_convert;
      limits = sampled.limits;
      samples = sampled.samples;
    }
