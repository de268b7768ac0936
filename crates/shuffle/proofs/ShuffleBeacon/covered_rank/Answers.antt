use Rattle.std.proofs.Common.{◌≡◌, ℕ, ◌<◌, ◌≤◌, ◌≢◌, List, length, take, min, slice_index, Option, Some, None, arith, rules}
use Rattle.std.specs.Option.{MatchOption, unwrap_or}
use Rattle.shuffle.specs.Shuffle.{place}
use Rattle.shuffle.specs.ShuffleOrder.{place_found}
use Rattle.shuffle.proofs.ShuffleBeacon.covered_rank.Goals as goal

-- what a search over the first n of sixteen places answers is the place of v
place_answer : (v : ℕ) (xs : List ℕ) (n : ℕ) (p : Option ℕ) → length xs ≡ 16 → n ≤ 16
    → MatchOption p ((k : ℕ) → k < min n 16 → slice_index xs k ≢ v) (λ r. (r < min n 16) × (slice_index xs r ≡ v) × ((k : ℕ) → k < r → slice_index xs k ≢ v))
    → unwrap_or p n ≡ place v (take n xs)
place_answer v xs n None long most none =
    place_found v xs n n (omega arith) (omega arith) (λ j h. none j (search rules)) (λ h. absurd (omega arith))
place_answer v xs n (Some r) long most f =
    let low : r < n = search rules in
    place_found v xs n r (omega arith) (omega arith) f.2 (λ h. f.1)

pub returns : goal.returns
returns c = λ in_rounds seated.
    let n = c.get-n.result in
    let most : n ≤ 16 = search rules in
    let found = place_answer c.args.seat c.arrange-places.result n c.first_place.result (search rules) most c.first_place.ensures in
    search rules
