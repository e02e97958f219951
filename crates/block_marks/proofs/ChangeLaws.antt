-- What a page noted in the header and in its block's words gives, over plain variables. Assumes nothing.
use Rattle.std.proofs.Common.{◌≡◌, ℕ, ◌/◌, ◌%◌, Bool, true, false, not, eqb, sym, eq-eqb, ne_eqb}
use Rattle.words.specs.Word.{with_bit, set_bit, clear_bit}
use Rattle.window.specs.declared.AdaptiveReceiverPacketWindow.{AdaptiveReceiverPacketWindow}
use Rattle.model.specs.Demand3.{one}
use Rattle.model.specs.Window.{window, upd}
use Rattle.model.specs.Steps.{set_summary, set_nonempty, note_nonempty}
use Rattle.block_marks.specs.declared.BlockWords.{BlockWords}
use Rattle.block_marks.specs.declared.Change.{Change}
use Rattle.block_marks.specs.Blocks.{with_nonempty}
use Rattle.block_marks.specs.Promises.{Notes}

abbrev pub change : AdaptiveReceiverPacketWindow → BlockWords → Change
change h x = record { window = h; block = x }

module _ (h : AdaptiveReceiverPacketWindow) (x : BlockWords) where
  -- ---- a page that holds a value now, or none
  pub notes : (g : ℕ) (holds emptied : Bool) (y : BlockWords) (summary : ℕ)
      → y ≡ with_nonempty x (with_bit x.nonempty (g % 64) (one holds)) → eqb y.nonempty 0 ≡ emptied
      → summary ≡ with_bit h.nonempty_summary (g / 64) (one (not emptied))
      → Notes h x g holds (change (set_summary h summary) y)
  unfolding note_nonempty
  notes g holds emptied y summary p z q = record {
    gives = λ v e f o.
        rw (q, ← z, p)
        (λ i.
        let word = with_bit (sym f i).nonempty (g % 64) (one (sym o i)) in
        window (set_summary (sym e i) (with_bit (sym e i).nonempty_summary (g / 64) (one (not (eqb word 0)))))
        v.pages (upd v.blocks (g / 64) (set_nonempty (sym f i) word)));
  }

  -- the same of what the code finds
  pub notes_empty : (g : ℕ) (holds : Bool) (y : BlockWords) (summary : ℕ)
      → y ≡ with_nonempty x (with_bit x.nonempty (g % 64) (one holds)) → y.nonempty ≡ 0 → summary ≡ clear_bit h.nonempty_summary (g / 64)
      → Notes h x g holds (change (set_summary h summary) y)
  notes_empty g holds y summary p z q = notes g holds true y summary p (eq-eqb y.nonempty 0 z) q

  pub notes_some : (g : ℕ) (holds : Bool) (y : BlockWords) (summary : ℕ)
      → y ≡ with_nonempty x (with_bit x.nonempty (g % 64) (one holds)) → (y.nonempty ≡ 0 → ⊥) → summary ≡ set_bit h.nonempty_summary (g / 64)
      → Notes h x g holds (change (set_summary h summary) y)
  notes_some g holds y summary p z q = notes g holds false y summary p (ne_eqb y.nonempty 0 z) q

-- what the tactics know of a page noted
pub ruleset noting = (notes_empty, notes_some)
