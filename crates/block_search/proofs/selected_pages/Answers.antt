-- The word of each arm is the definition's at what is looked for (all-code, live-code, retired-code). Assumes nothing.
use mathlib.Core.Path.{◌∙◌}
use Prim.Native.Nat.{◌^◌, ◌<◌}
use native.Mathlib.Omega.{arith}
use Rattle.block_search.proofs.SelectLaws.{all-code, live-code, retired-code, read-from}
use Rattle.block_search.proofs.selected_pages.Goals as goal

pub returns-in-Nonempty : goal.returns-in-Nonempty
returns-in-Nonempty c =
    let nonempty_fits : c.block_words-b.result.nonempty < 2 ^ 64 = omega arith in
    let x = c.block_words-b.result in
    let s = c.args in
    all-code x s.retired_blocks s.block (nonempty_fits) ∙ read-from _ _ _ _ _ _ c.block_words-b.ensures c.in-Nonempty.is

pub returns-in-Live : goal.returns-in-Live
returns-in-Live c =
    let nonempty_fits : c.block_words-b.result.nonempty < 2 ^ 64 = omega arith in
    let x = c.block_words-b.result in
    let r = c.retired_pages-retired in
    let small : r.result < 2 ^ 64 = omega arith in
    live-code x _ _ _ (nonempty_fits) r.ensures small ∙ read-from _ _ _ _ _ _ c.block_words-b.ensures c.in-Live.is

pub returns-in-Retired : goal.returns-in-Retired
returns-in-Retired c =
    let nonempty_fits : c.block_words-b.result.nonempty < 2 ^ 64 = omega arith in
    let x = c.block_words-b.result in
    let r = c.retired_pages-retired in
    retired-code x _ _ _ (nonempty_fits) r.ensures ∙ read-from _ _ _ _ _ _ c.block_words-b.ensures c.in-Retired.is
