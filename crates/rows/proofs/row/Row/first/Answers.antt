use Rattle.std.proofs.Common.{◌≡◌, ℕ, ◌≢◌, List, rules, tests, arith}
use Rattle.std.proofs.lemmas.Iterator.{IsFirst-from_position, YieldsList-from_slice}
use Rattle.rows.proofs.Rows.{first_one, clear_words, clear_all}
use Rattle.rows.proofs.row.Row.first.Goals as goal

pub returns-in_err-k : goal.returns-in_err-k
returns-in_err-k c =
    let ws : List ℕ = c.args.self.now.words in
    let none = IsFirst-from_position _ _ _ (λ w. w ≢ 0) (λ w. w ≡ 0) c.in_err-k.ensures.ran (YieldsList-from_slice ws cc) (λ x q k. search (rules, tests)) (λ x q k. search (rules, tests)) in
    let all = clear_all ws 8 (omega arith) (clear_words ws 8 (λ j h. none j 0 (omega arith) (omega arith))) in
    search rules

pub returns : goal.returns
returns c =
    let ws : List ℕ = c.args.self.now.words in
    let some = IsFirst-from_position _ _ _ (λ w. w ≢ 0) (λ w. w ≡ 0) c.in_ok-k.ensures.ran (YieldsList-from_slice ws cc) (λ x q k. search (rules, tests)) (λ x q k. search (rules, tests)) in
    first_one ws c.in_ok-k.k (omega arith) (some.1 0) (clear_words ws c.in_ok-k.k (λ j h. some.2 j 0 (omega arith) h))
