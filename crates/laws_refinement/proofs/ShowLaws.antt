-- What a sound state shows is what stands at its positions: the pairs that iter gives and the retired values, each as often, and the
-- header's counts of them. With each call's refinement, a head refines the positions. Assumes nothing.
use mathlib.Core.Path.{◌≡◌, sym, ap, subst, ◌∙◌}
use mathlib.Core.Bool.{not}
use mathlib.Core.List.{List}
use Prim.Native.Nat.{ℕ, ◌/◌, ◌≤◌}
use lib.ListN.{length}
use Rattle.words.proofs.CaseLaws.{bool}
use Rattle.window.specs.declared.AdaptiveReceiverPacketWindow.{AdaptiveReceiverPacketWindow}
use Rattle.window.proofs.MemoryLaws.{capacity-pages}
use Rattle.model.specs.Table.{Pair, held}
use Rattle.model.specs.Demand3.{times, copies, SamePairs, values, pairs_below}
use Rattle.model.specs.Window.{Window, size_of, capacity_of, pages_of, is_retired, live_at, retired_at, live_pairs_of, retired_values}
use Rattle.model.specs.Positions.{retired_count}
use Rattle.model.specs.Contract.{State, window_of}
use Rattle.model.specs.Heads.{head}
use Rattle.model.specs.Refinement.{Shows, Refinement}
use Rattle.model.proofs.SumLaws.{total, equals, each, total-times, total-length, length-values, length_pairs}
use Rattle.page_base.proofs.DecodeLaws.{header_at}
use Rattle.laws_soundness.specs.Change.{Proper}
use Rattle.laws_soundness.proofs.ProperLaws.{proper-decode}
use Rattle.laws_soundness.proofs.SumLaws.{sum_same}
use Rattle.laws_refinement.specs.Seen.{positions_of, positions_in, SoundState}
use Rattle.laws_refinement.proofs.MarkLaws.{proper-order}
use Rattle.laws_refinement.proofs.CountLaws.{all-counts, all-counts-live}
use Rattle.laws_refinement.proofs.StateLaws.{call-refines}
use Rattle.laws_refinement.proofs.OnceLaws.{once-live}
use Rattle.laws_refinement.proofs.WeightLaws.{weights, weighed, is_pair, each_pair, weights-copies, weights-length, weights-values, weights-below}
use Rattle.laws_refinement.proofs.CellLaws.{counted_at, window-weights}
use Rattle.laws_refinement.proofs.IterLaws.{live-cells, retired-cells}

-- ---- a window

module _ (w : Window) (ok : Proper w) where
  abbrev live_positions : List Pair
  live_positions = pairs_below (capacity_of w) (live_at w)

  abbrev retired_positions : List Pair
  retired_positions = pairs_below (capacity_of w) (retired_at w)

  live-weights : (f : Pair → ℕ) → weights f (live_pairs_of w) ≡ weights f live_positions
  live-weights f =
      live-cells w f
      ∙ window-weights w (λ (g : ℕ). not (is_retired w g)) w.header.n (pages_of w) (proper-order w ok).places f (capacity_of w) (capacity-pages (size_of w))
      ∙ sum_same (capacity_of w) (λ (q : ℕ). weighed f (counted_at w (λ (g : ℕ). not (is_retired w g)) q)) (λ (q : ℕ). weighed f (live_at w q))
      (λ q l. bool (is_retired w (q / 64)) (λ r. rw r) (λ r. rw r))
      ∙ sym (weights-below (capacity_of w) f (live_at w))

  retired-weights : (g : ℕ → ℕ) → total g (retired_values w) ≡ total g (values retired_positions)
  retired-weights g =
      let f : Pair → ℕ = λ e. g e.value in
      retired-cells w g
      ∙ window-weights w (is_retired w) w.header.n (pages_of w) (proper-order w ok).places f (capacity_of w) (capacity-pages (size_of w))
      ∙ sym (weights-below (capacity_of w) f (retired_at w))
      ∙ weights-values g retired_positions

  pub live-copies : (s v : ℕ) → copies s v (live_pairs_of w) ≡ copies s v live_positions
  live-copies s v = sym (weights-copies s v (live_pairs_of w)) ∙ live-weights (is_pair s v) ∙ weights-copies s v live_positions

  -- "each once"
  each-once : (s v : ℕ) → copies s v (live_pairs_of w) ≤ 1
  each-once s v = rw (live-copies s v) (once-live w ok.sound s v)

  live-times : (v : ℕ) → times v (values (live_pairs_of w)) ≡ times v (values live_positions)
  live-times v =
      let of_values : (l : List Pair) → weights (λ (e : Pair). equals v e.value) l ≡ times v (values l)
      = λ l. weights-values (equals v) l ∙ total-times v (values l) in
      sym (of_values (live_pairs_of w)) ∙ live-weights (λ (e : Pair). equals v e.value) ∙ of_values live_positions

  retired-times : (v : ℕ) → times v (retired_values w) ≡ times v (values retired_positions)
  retired-times v = sym (total-times v (retired_values w)) ∙ retired-weights (equals v) ∙ total-times v (values retired_positions)

  -- "len is their number"
  live-length : w.header.len ≡ length (live_pairs_of w)
  live-length =
      ok.sound.len
      ∙ sym (all-counts-live w.header.n (pages_of w) w (proper-order w ok) (capacity_of w) (capacity-pages (size_of w)))
      ∙ sym (length_pairs (capacity_of w) (live_at w))
      ∙ length-values live_positions
      ∙ sym (weights-length live_positions)
      ∙ sym (live-weights each_pair)
      ∙ weights-length (live_pairs_of w)

  retired-length : length (retired_values w) ≡ retired_count (capacity_of w) (positions_of w)
  retired-length =
      sym (total-length (retired_values w)) ∙ retired-weights each ∙ total-length (values retired_positions) ∙ length_pairs (capacity_of w) (retired_at w)

  -- "retired_held counts the retired"
  retired-held : w.header.retired_held ≡ length (retired_values w)
  retired-held =
      sym (retired-length ∙ all-counts w.header.n (pages_of w) w (proper-order w ok) (capacity_of w) (capacity-pages (size_of w)))

-- ---- a state

module _ (size : ℕ) where
  pub shows : (u : State) → SoundState size u → Shows size head (SoundState size) positions_in u
  unfolding SamePairs
  shows u s =
      let w = window_of u in
      let header : w.header ≡ u.header = header_at u.header u.memory in
      let ok : Proper w = proper-decode u.header u.memory s.sound.sound in
      let same : size_of w ≡ size = ap (λ (h : AdaptiveReceiverPacketWindow). h.window_size) header ∙ s.of_size in
      subst (λ (n : ℕ). Shows n head (SoundState size) positions_in u) same (record {
        sound = s.sound;
        live = live-copies w ok;
        once = each-once w ok;
        live_values = live-times w ok;
        same_retired_values = retired-times w ok;
        count = ap (λ (h : AdaptiveReceiverPacketWindow). h.len) (sym header) ∙ live-length w ok;
        held = ap (λ (h : AdaptiveReceiverPacketWindow). h.retired_held) (sym header) ∙ retired-held w ok;
        base = ap (λ (h : AdaptiveReceiverPacketWindow). h.base) (sym header);
        point = ap (λ (h : AdaptiveReceiverPacketWindow). h.point) (sym header) ∙ s.sound.point;
        same_retired_count = retired-length w ok;
      })

  -- a head refines the positions
  pub refinement : Refinement size head (SoundState size) positions_in
  refinement = record { shows = shows; refines = λ u v e s t. call-refines size u v e s t }
