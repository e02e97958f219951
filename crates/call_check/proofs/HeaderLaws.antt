-- The header of a window read from the lent lists. Assumes nothing.
use mathlib.Core.Path.{◌≡◌, sym, ◌∙◌}
use mathlib.Core.Bool.{Bool, true, false}
use mathlib.Core.List.{List}
use Prim.Native.Nat.{ℕ}
use Rattle.window.specs.declared.AdaptiveReceiverPacketWindow.{AdaptiveReceiverPacketWindow}
use Rattle.window.specs.Memory.{memory}
use Rattle.window.proofs.MemoryLaws.{page-count-ge, page-count-le, block-count-le}
use Rattle.model.specs.Window.{decode}
use Rattle.page_check.specs.Promises.{Decides}
use Rattle.page_check.proofs.DecideLaws.{decides-no}
use Rattle.call_check.specs.Clauses.{SoundHeader}
use Rattle.call_check.specs.Promises.{HeaderWords, HeaderCounts, DecidesHeader}
use Rattle.call_check.proofs.ValueLaws.{live-sum, retired-sum}

-- its words and its counts are the whole
module _ (h : AdaptiveReceiverPacketWindow) (pages blocks : List ℕ) (t : Bool) (words : Decides (HeaderWords h) t) where
  words_of : (ss vs : List ℕ) → SoundHeader (decode h (memory ss vs pages blocks)) → HeaderWords h
  unfolding decode
  words_of ss vs s = record {
    cursor = s.cursor;
    summary_bits = s.summary_bits;
    retired_block_bits = s.retired_block_bits;
    no_block_mark = s.no_block_mark;
  }

  counts_of : (ss vs : List ℕ) → SoundHeader (decode h (memory ss vs pages blocks)) → HeaderCounts h pages blocks
  unfolding decode
  counts_of ss vs s =
      let m = memory ss vs pages blocks in
      record { len = s.len ∙ sym (live-sum h m); held = s.held ∙ sym (retired-sum h m) }

  all_of : (ss vs : List ℕ) → HeaderWords h → HeaderCounts h pages blocks → SoundHeader (decode h (memory ss vs pages blocks))
  unfolding decode
  all_of ss vs w c =
      let m = memory ss vs pages blocks in
      record {
        len = c.len ∙ live-sum h m;
        held = c.held ∙ retired-sum h m;
        cursor = w.cursor;
        summary_bits = w.summary_bits;
        retired_block_bits = w.retired_block_bits;
        no_block_mark = w.no_block_mark;
      }

  pub words_fail : t ≡ false → DecidesHeader h pages blocks false
  words_fail e = record { is = λ ss vs. decides-no (λ s. words.fails e (words_of ss vs s)) }

  pub header_decided : t ≡ true → (r : Bool) → Decides (HeaderCounts h pages blocks) r → DecidesHeader h pages blocks r
  header_decided e r d = record {
    is = λ ss vs. record {
      holds = λ b. all_of ss vs (words.holds e) (d.holds b);
      fails = λ b s. d.fails b (counts_of ss vs s);
    };
  }

pub ruleset sizes = (page-count-ge, page-count-le, block-count-le)

pub ruleset whole = (words_fail, header_decided)
