use Prim.Native.Nat.{ℕ}
use mathlib.Core.Path.{ap, ◌∙◌}
use native.Mathlib.Omega.{arith}
use lib.ListN.{length}
use Rattle.std.specs.List.{range_with_len}
use Rattle.std.proofs.Common.{rules, tests}
use Rattle.std.proofs.lemmas.Iterator.{YieldsList-from_range, YieldsList-from_map}
use Rattle.std.proofs.lemmas.Iterator.Consumers.{sum_by_from_yields_List, fits_by_from_yields_list}
use Rattle.region.specs.Layout.{listed}
use Rattle.pool.specs.Calls.{bytes_in, joined}
use Rattle.response.proofs.LengthLaws.{lengths_are, lengths_short}
use Rattle.response.proofs.response.Pieces.length.Goals as goal

pub sum-requires-clause-fits : goal.sum-requires-clause-fits
sum-requires-clause-fits c =
    let r = c.args.self.now.region in
    let i = c.args.self.now.i in
    let n = c.count.result in
    fits_by_from_yields_list (λ (k : ℕ). length (bytes_in r (listed r i k))) (range_with_len 0 n) c.map.result _
    (YieldsList-from_map _ (λ (k : ℕ). length (bytes_in r (listed r i k))) (YieldsList-from_range 0 n n c.map.ensures.source (omega arith)) c.map.ensures.closure (λ x r q k. search (rules, tests)))
    (omega (arith, lengths_are r i n, lengths_short r i n))

pub returns : goal.returns
returns c =
    let r = c.args.self.now.region in
    let i = c.args.self.now.i in
    let n = c.count.result in
    sum_by_from_yields_List (λ (k : ℕ). length (bytes_in r (listed r i k))) (range_with_len 0 n) c.map.result _ c.sum.ensures.ran
    (YieldsList-from_map _ (λ (k : ℕ). length (bytes_in r (listed r i k))) (YieldsList-from_range 0 n n c.map.ensures.source (omega arith)) c.map.ensures.closure (λ x r q k. search (rules, tests)))
    ∙ lengths_are r i n ∙ ap (λ m. length (joined r i m)) c.count.ensures
