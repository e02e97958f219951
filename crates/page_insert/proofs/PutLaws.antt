-- What stands at a position, and a new value in a free cell: what stands then, and its values are in their places. Assumes nothing.
use mathlib.Core.Path.{◌≡◌, refl, sym, ap, ◌∙◌}
use mathlib.Core.Bool.{cond}
use mathlib.Core.Option.{Option, none, some}
use Prim.Native.Nat.{ℕ, ◌+◌, ◌%◌, ◌≤◌, ◌<◌}
use native.Mathlib.Omega.{arith}
use native.Mathlib.Decide.{ℕ_discrete}
use lib.Dec.{eqb}
use borrow.Author.Tests.{eq-eqb, ne_eqb}
use Rattle.words.specs.Word.{bit_at, set_bit, count}
use Rattle.words.proofs.BitLaws.{bit-lt}
use Rattle.words.proofs.ChangeLaws.{with-same, with-other, with-lt}
use Rattle.words.proofs.CountLaws.{count_set}
use Rattle.model.specs.Table.{Pair, pair_of, put_at}
use Rattle.model.specs.Window.{Page, stands_at}
use Rattle.model.specs.Sound.{Used}
use Rattle.model.specs.Pages.{put_cell}
use Rattle.page_base.specs.Page.{Placed, OfPage, Here}
use Rattle.page_base.proofs.StandLaws.{stands-in, stands-none}
use Rattle.page_base.proofs.PlaceLaws.{cell_at, few-cells}

-- what stands on page q after s was put at its position of page p, from what stood there
pub at_position : (p q : Page) (s v : ℕ) (o : Option Pair) → stands_at p (s % 64) ≡ o → stands_at q (s % 64) ≡ put_at s v o
    → ((j : ℕ) → j < 64 → (j ≡ s % 64 → ⊥) → stands_at q j ≡ stands_at p j)
    → (j : ℕ) → j < 64 → stands_at q j ≡ cond (eqb j (s % 64)) (put_at s v (stands_at p j)) (stands_at p j)
at_position p q s v o a b rest j l = elim (ℕ_discrete j (s % 64)) [
  | yes e ↦ rw (eq-eqb j (s % 64) e, e) (b ∙ ap (put_at s v) (sym a))
  | no e ↦ rw (ne_eqb j (s % 64) e) (rest j l e)
]

-- ---- a new value in a free cell

-- cell c is free for sequence s, and the page, of kind k then, is still in order
pub record Room (n k c s : ℕ) (p : Page) : Type 0 where
  pub inside : c < 64
  pub free : bit_at p.filled c ≡ 0
  pub empty : bit_at p.occupied (s % 64) ≡ 0
  pub kinds : k ≤ 2
  pub some-kind : k ≡ 0 → ⊥
  pub sparse : k ≡ 1 → (p.kind ≡ 2 → ⊥) × (c < n)
  pub dense : k ≡ 2 → (p.kind ≡ 2) × (c ≡ s % 64)

module _ (n k c s v : ℕ) (p : Page) (ok : Placed n p) (room : Room n k c s p) where
  abbrev after : Page
  after = put_cell p k c s v

  -- the sequence of each cell, and whether it is in use
  own : (d : ℕ) → d ≡ c → after.sequences d ≡ s
  own d e = rw (eq-eqb d c e)

  other : (d : ℕ) → (d ≡ c → ⊥) → after.sequences d ≡ p.sequences d
  other d e = rw (ne_eqb d c e)

  own_at : (d : ℕ) → d ≡ c → after.sequences d % 64 ≡ s % 64
  own_at d e = ap (λ (x : ℕ). x % 64) (own d e)

  other_at : (d : ℕ) → (d ≡ c → ⊥) → after.sequences d % 64 ≡ p.sequences d % 64
  other_at d e = ap (λ (x : ℕ). x % 64) (other d e)

  own-used : Used after c
  own-used = with-same p.filled c 1 (omega arith)

  was-used : (d : ℕ) → (d ≡ c → ⊥) → Used after d → Used p d
  was-used d e u = sym (with-other p.filled c 1 d (omega arith) e) ∙ u

  still-used : (d : ℕ) → Used p d → (d ≡ c → ⊥) × Used after d
  still-used d u =
      let q : d ≡ c → ⊥ = λ e. omega (arith, u, room.free, ap (bit_at p.filled) e) in
      (q, with-other p.filled c 1 d (omega arith) q ∙ u)

  -- no other cell in use is at the position
  apart : (d : ℕ) → d < 64 → Used p d → p.sequences d % 64 ≡ s % 64 → ⊥
  apart d l u e = omega (arith, ok.named d l u, room.empty, ap (bit_at p.occupied) e)

  pub put-taken : bit_at after.occupied (s % 64) ≡ 1
  put-taken = with-same p.occupied (s % 64) 1 (omega arith)

  pub put_count : count after.occupied ≡ count p.occupied + 1
  put_count = count_set 64 p.occupied (s % 64) (omega arith) room.empty

  pub put-placed : Placed n after
  put-placed = record {
    kinds = room.kinds;
    none_occupied = λ e. absurd (room.some-kind e);
    none_filled = λ e. absurd (room.some-kind e);
    named = λ d l u. elim (ℕ_discrete d c) [
      | yes e ↦ ap (bit_at after.occupied) (own_at d e) ∙ put-taken
      | no e ↦
          let w = was-used d e u in
          ap (bit_at after.occupied) (other_at d e)
          ∙ with-other p.occupied (s % 64) 1 (p.sequences d % 64) (omega arith) (apart d l w)
          ∙ ok.named d l w
    ];
    filled_by = λ j l b. elim (ℕ_discrete j (s % 64)) [
      | yes e ↦ (c, room.inside, own-used, own_at c refl ∙ sym e)
      | no e ↦
          let f = ok.filled_by j l (sym (with-other p.occupied (s % 64) 1 j (omega arith) e) ∙ b) in
          let u = still-used f.0 f.2 in
          (f.0, f.1, u.1, other_at f.0 u.0 ∙ f.3)
    ];
    once = λ a b l m u w e. elim (ℕ_discrete a c) [
      | yes x ↦
          elim (ℕ_discrete b c) [
            | yes y ↦ x ∙ sym y
            | no y ↦ absurd (apart b m (was-used b y w) (sym (other_at b y) ∙ sym e ∙ own_at a x))
          ]
      | no x ↦
          elim (ℕ_discrete b c) [
            | yes y ↦ absurd (apart a l (was-used a x u) (sym (other_at a x) ∙ e ∙ own_at b y))
            | no y ↦ ok.once a b l m (was-used a x u) (was-used b y w) (sym (other_at a x) ∙ e ∙ other_at b y)
          ]
    ];
    sparse = λ e d l u. elim (ℕ_discrete d c) [
      | yes x ↦ omega (arith, (room.sparse e).1)
      | no x ↦ few-cells n p ok (room.sparse e).0 d l (was-used d x u)
    ];
    dense_filled = λ e. ap (set_bit p.filled) (room.dense e).1 ∙ ap (λ (w : ℕ). set_bit w (s % 64)) (ok.dense_filled (room.dense e).0);
    dense_cells = λ e d l u. elim (ℕ_discrete d c) [
      | yes x ↦ own_at d x ∙ sym (room.dense e).1 ∙ sym x
      | no x ↦ other_at d x ∙ ok.dense_cells (room.dense e).0 d l (was-used d x u)
    ];
    occupied_fits = with-lt 64 p.occupied (s % 64) 1 ok.occupied_fits (omega arith) (omega arith);
    filled_fits = with-lt 64 p.filled c 1 ok.filled_fits room.inside (omega arith);
  }

  pub put-here : (cap g : ℕ) → OfPage cap g s → Here cap g p → Here cap g after
  put-here cap g e h d l u = elim (ℕ_discrete d c) [
    | yes x ↦ rw (own d x) e
    | no x ↦ rw (other d x) (h d l (was-used d x u))
  ]

  -- what stands at its position, and at every other
  stands-own : stands_at after (s % 64) ≡ some (pair_of s v)
  stands-own = stands-in after (s % 64) c (cell_at n after put-placed c (s % 64) room.inside own-used (own_at c refl)) room.inside ∙ rw (eq-eqb c c refl)

  stands-other : (j : ℕ) → j < 64 → (j ≡ s % 64 → ⊥) → stands_at after j ≡ stands_at p j
  stands-other j l e =
      let b : bit_at after.occupied j ≡ bit_at p.occupied j = with-other p.occupied (s % 64) 1 j (omega arith) e in
      elim (ℕ_discrete (bit_at p.occupied j) 1) [
        | yes o ↦
            let f = ok.filled_by j l o in
            let u = still-used f.0 f.2 in
            stands-in after j f.0 (cell_at n after put-placed f.0 j f.1 u.1 (other_at f.0 u.0 ∙ f.3)) f.1
            ∙ rw (ne_eqb f.0 c u.0) (sym (stands-in p j f.0 (cell_at n p ok f.0 j f.1 f.2 f.3) f.1))
        | no o ↦
            let z : bit_at p.occupied j ≡ 0 = omega (arith, bit-lt p.occupied j) in
            stands-none n after put-placed j (b ∙ z) ∙ sym (stands-none n p ok j z)
      ]

  pub put-stands : (j : ℕ) → j < 64 → stands_at after j ≡ cond (eqb j (s % 64)) (put_at s v (stands_at p j)) (stands_at p j)
  put-stands = at_position p after s v none (stands-none n p ok (s % 64) room.empty) stands-own stands-other
