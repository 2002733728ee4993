-- Numbers of positions, kept as the least number that all of them divide.
use Rattle.std.specs.Prelude.{ℕ, zero, suc, ◌+◌, ◌%◌, Bool, ◌||◌, ◌&&◌, eqb, ltb}
use Rattle.songcode.specs.Lists.{provided◌then◌else◌}

unfoldable pub divides : ℕ → ℕ → Bool
divides p n = eqb (n % p) 0

-- The first of k numbers from m on that passes a test, or the number behind them.
unfoldable pub first_from : (ℕ → Bool) → ℕ → ℕ → ℕ
unfolding provided◌then◌else◌
first_from test zero m = m
first_from test (suc k) m = provided test m then m else first_from test k (m + 1)

-- That both divide.
unfoldable pub common_by : ℕ → ℕ → ℕ → ℕ → ℕ
unfolding first_from divides
common_by k m a b = first_from (λ n. divides a n && divides b n) k m

-- 33 is that of sizes which no number up to 32 has.
unfoldable pub joined : ℕ → ℕ → ℕ
unfolding provided◌then◌else◌ divides common_by
joined s p = provided ltb 32 s || divides p s then s else common_by 32 1 s p
