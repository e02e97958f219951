-- What the inner functions promise, on lists of any content. Definitions only. Assumes nothing.
use Rattle.std.specs.Prelude.{◌≡◌, List, ℕ, length}
use Rattle.window.specs.declared.AdaptiveReceiverPacketWindow.{AdaptiveReceiverPacketWindow}
use Rattle.model.specs.Losses.{flags_from, loss_words, over}
use Rattle.loss_stretch.specs.Promises.{seen_lost}

module _ (h : AdaptiveReceiverPacketWindow) (ss pages blocks : List ℕ) (first count : ℕ) where
  -- the list of the `count` sequences from first on that are not seen live
  abbrev pub seen_list : List ℕ
  seen_list = loss_words first (flags_from (seen_lost h ss pages blocks first) 0 count)

  abbrev pub CountsWords : ℕ → Type 0
  CountsWords r = r ≡ length seen_list

  -- r words at the beginning of a lent list
  pub record PutsLosses (before : List ℕ) (r : ℕ) (now : List ℕ) : Type 0 where
    pub number : r ≡ length seen_list
    pub list : now ≡ over seen_list before
