-- Values spread to the cells of their positions: what each cell holds. Assumes nothing.
use mathlib.Core.Path.{◌≡◌, refl, sym, ap, ◌∙◌}
use mathlib.Core.Bool.{cond}
use mathlib.Core.List.{List}
use Prim.Native.Nat.{ℕ, zero, suc, ◌%◌, ◌<◌}
use native.Mathlib.Nat.{not-suc-le-zero}
use native.Mathlib.Omega.{arith}
use native.Mathlib.Decide.{ℕ_discrete, dec_lt}
use lib.ListN.{length, get_or, length-set}
use lib.Seq.{get_or-set_same, get_or-set_other}
use borrow.Author.Tests.{eq-eqb, ne_eqb}
use Rattle.words.specs.Word.{bit_at, is_set, span}
use Rattle.words.proofs.BitLaws.{bit-lt, bit_past}
use Rattle.words.proofs.SpanLaws.{span-in, span-above}
use Rattle.model.specs.Window.{Page, cell_of}
use Rattle.model.specs.Sound.{Used}
use Rattle.model.specs.Pages.{promoted}
use Rattle.page_base.specs.declared.PageWords.{PageWords}
use Rattle.page_base.specs.Page.{cells, page, Placed}
use Rattle.page_base.proofs.PartLaws.{cell_in, cell-past}
use Rattle.page_base.proofs.PlaceLaws.{cell_at}
use Rattle.page_insert.specs.Insert.{spread}

-- ---- values spread, by cell

module _ (ss from xs : List ℕ) where
  pub spread-length : (n : ℕ) → length (spread ss from n xs) ≡ length xs
  unfolding spread
  spread-length zero = refl
  spread-length (suc n) = simp length-set (spread-length n)

  -- a position of none of the first n
  spread-other : (n j : ℕ) → ((c : ℕ) → c < n → get_or ss c 0 % 64 ≡ j → ⊥) → get_or (spread ss from n xs) j 0 ≡ get_or xs j 0
  unfolding spread
  spread-other zero j h = refl
  spread-other (suc n) j h =
      get_or-set_other (spread ss from n xs) (get_or ss n 0 % 64) j (get_or from n 0) 0 (λ e. h n (omega arith) (sym e))
      ∙ spread-other n j (λ c l. h c (omega arith))

  -- the position of cell c, and of no other of the first n
  spread-held : length xs ≡ 64 → (n c : ℕ) → c < n → ((d : ℕ) → d < n → get_or ss d 0 % 64 ≡ get_or ss c 0 % 64 → d ≡ c)
      → get_or (spread ss from n xs) (get_or ss c 0 % 64) 0 ≡ get_or from c 0
  unfolding spread
  spread-held long zero c l once = absurd (not-suc-le-zero l)
  spread-held long (suc n) c l once = elim (ℕ_discrete c n) [
    | yes e ↦
        rw e (get_or-set_same (spread ss from n xs) (get_or ss n 0 % 64) (get_or from n 0) 0 (omega (arith, spread-length n)))
    | no e ↦
        get_or-set_other (spread ss from n xs) (get_or ss n 0 % 64) (get_or ss c 0 % 64) (get_or from n 0) 0 (λ q. e (sym (once n (omega arith) (sym q))))
        ∙ spread-held long n c (omega arith) (λ d m. once d (omega arith))
  ]

-- ---- a page made dense

module _ (n : ℕ) (w : PageWords) (ss vs : List ℕ) (l : n < 64) (ok : Placed n (page w ss vs)) (full : w.filled ≡ span 0 n) where
  abbrev here : Page
  here = page w ss vs

  used : (c : ℕ) → c < n → Used here c
  used c m = ap (λ (x : ℕ). bit_at x c) full ∙ span-in 0 n c (omega arith) m

  below : (c : ℕ) → Used here c → c < n
  below c u = elim (dec_lt c n) [ yes m ↦ m | no m ↦ absurd (omega (arith, u, ap (λ (x : ℕ). bit_at x c) full, span-above 0 n c (omega arith))) ]

  module _ (xs : List ℕ) (long : length xs ≡ 64) (j : ℕ) where
    -- where a value stands
    moved_to : j < 64 → bit_at w.occupied j ≡ 1 → cells (spread ss xs n xs) j ≡ cells xs (cell_of here j)
    moved_to m b =
        let f = ok.filled_by j m b in
        let c = f.0 in
        let p : get_or ss c 0 % 64 ≡ j = ap (λ (x : ℕ). x % 64) (sym (cell_in ss c f.1)) ∙ f.3 in
        let once : (d : ℕ) → d < n → get_or ss d 0 % 64 ≡ get_or ss c 0 % 64 → d ≡ c = λ d k e. ok.once d c (omega arith) f.1 (used d k) f.2
        (ap (λ (x : ℕ). x % 64) (cell_in ss d (omega arith)) ∙ e ∙ p ∙ sym f.3) in
        cell_in (spread ss xs n xs) j m
        ∙ ap (λ (x : ℕ). get_or (spread ss xs n xs) x 0) (sym p)
        ∙ spread-held ss xs xs long n c (below c f.2) once
        ∙ sym (cell_in xs c f.1)
        ∙ ap (cells xs) (sym (cell_at n here ok c j f.1 f.2 f.3))

    -- where none does
    kept : j < 64 → bit_at w.occupied j ≡ 0 → cells (spread ss xs n xs) j ≡ cells xs j
    kept m b =
        cell_in (spread ss xs n xs) j m
        ∙ spread-other ss xs xs n j (λ c k e. omega (arith, ok.named c (omega arith) (used c k), ap (λ (x : ℕ). bit_at w.occupied (x % 64)) (cell_in ss c (omega arith)), ap (bit_at w.occupied) e))
        ∙ sym (cell_in xs j m)

    moved : cells (spread ss xs n xs) j ≡ cond (is_set w.occupied j) (cells xs (cell_of here j)) (cells xs j)
    moved = elim (dec_lt j 64) [
      | yes m ↦
          elim (ℕ_discrete (bit_at w.occupied j) 1) [
            | yes b ↦ rw (eq-eqb (bit_at w.occupied j) 1 b) (moved_to m b)
            | no b ↦ rw (ne_eqb (bit_at w.occupied j) 1 b) (kept m (omega (arith, bit-lt w.occupied j)))
          ]
      | no m ↦
          let z = bit_past 64 w.occupied j ok.occupied_fits (omega arith) in
          rw (ne_eqb (bit_at w.occupied j) 1 (λ q. omega arith)) (cell-past (spread ss xs n xs) j (omega arith) ∙ sym (cell-past xs j (omega arith)))
    ]

  pub promoted-page : length ss ≡ 64 → length vs ≡ 64
      → page (record { kind = 2; occupied = w.occupied; filled = w.occupied }) (spread ss ss n ss) (spread ss vs n vs) ≡ promoted here
  unfolding promoted
  promoted-page a b = λ i. record {
    kind = 2;
    occupied = w.occupied;
    filled = w.occupied;
    sequences = λ j. moved ss a j i;
    values = λ j. moved vs b j i;
  }

-- the same, with the lists that the code reads and writes
pub promoted-lists : (n : ℕ) (w : PageWords) (ss vs s v ss' vs' : List ℕ) → n < 64 → length ss ≡ 64 → length vs ≡ 64 → s ≡ ss → v ≡ vs
    → ss' ≡ spread s s n ss → vs' ≡ spread s v n vs → Placed n (page w ss vs) → w.filled ≡ span 0 n
    → page (record { kind = 2; occupied = w.occupied; filled = w.occupied }) ss' vs' ≡ promoted (page w ss vs)
promoted-lists n w ss vs s v ss' vs' l a b e f es ev ok full =
    let r : PageWords = record { kind = 2; occupied = w.occupied; filled = w.occupied } in
    ap (λ (x : List ℕ). page r x vs') (es ∙ ap (λ (x : List ℕ). spread x x n ss) e)
    ∙ ap (λ (x : List ℕ). page r (spread ss ss n ss) x) (ev ∙ ap (λ (x : List ℕ). spread x v n vs) e ∙ ap (λ (x : List ℕ). spread ss x n vs) f)
    ∙ promoted-page n w ss vs l ok full a b
