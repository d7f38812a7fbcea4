use Rattle.std.proofs.Common.{◌≡◌, ℕ, ◌+◌, ◌<◌, ◌≤◌, List, [], ◌++◌, length, take, drop, sym, ◌∙◌, ap, arith}
use Rattle.std.proofs.lemmas.List.{take-append-drop, drop-drop, length-drop, drop_all}
use Rattle.std.proofs.Math.Seq.{take-append_seam}
use Rattle.outside.proofs.source.copy_front.Goals as goal

-- what was copied, and what is left after it, are what was left
copied : (left copy rest after : List ℕ) (n : ℕ) → copy ≡ take n left → length copy ≡ n → after ≡ drop n left → left ≡ take n (copy ++ rest) ++ after
copied left copy rest after n is size behind =
    let e : take n (copy ++ rest) ≡ copy = ap (λ k. take k (copy ++ rest)) (sym size) ∙ take-append_seam copy rest in
    sym (ap (λ x. x ++ after) e ∙ ap (λ x. x ++ after) is ∙ ap (λ x. take n left ++ x) behind ∙ take-append-drop n left)

pub returns-clause-given : goal.returns-clause-given
returns-clause-given c =
    let n : ℕ = c.min-count.result in
    let left : List ℕ = drop c.args.at c.args.bytes.now in
    let size : length c.copy_from_slice.new.self ≡ n = ap length c.copy_from_slice.ensures.after ∙ c.split_at-2.ensures.front_len in
    copied left c.copy_from_slice.new.self (drop n c.args.buffer.now) (drop (c.args.at + n) c.args.bytes.now) n
    (c.copy_from_slice.ensures.after ∙ c.split_at-2.ensures.front ∙ ap (take n) c.split_at.ensures.back) size
    (sym (drop-drop n c.args.at c.args.bytes.now))

pub returns-clause-end : goal.returns-clause-end
returns-clause-end c = λ none room.
    let most : length c.args.bytes.now ≤ c.args.at + c.min-count.result = omega (arith, c.split_at.ensures.back_len) in
    drop_all (c.args.at + c.min-count.result) c.args.bytes.now most
