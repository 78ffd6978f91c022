-- The order in which layers are laid never shows: whatever the order, and however often a layer is laid, each pixel of both
-- lines is the candidate of greatest priority there, or the backdrop where there is no candidate. Said of any set of layers, of
-- which each that has a candidate is laid at least once.
use Rattle.std.specs.Prelude.{ℕ, ◌≤◌, ◌<◌, ◌≡◌, Bool, cond, ◌&&◌, get_or, length}
use Rattle.std.proofs.Math.Path.{refl, ap}
use Rattle.std.proofs.Common.{sym, subst, ◌∙◌, ⊎_elim, arith, ext_get_or}
use Rattle.std.proofs.Math.Bool.{true, false}
use Rattle.std.proofs.lemmas.Bool.{false≢true}
use mathlib.Core.List.Memᴰ
use mathlib.Core.List.{List, [], ◌∷◌, Memᴰ}
use Rattle.std.proofs.Math.Dec.{leb}
use borrow.Author.Tests.{leb-true, leb-false}
use Rattle.base_lists.specs.theorems.Tab.{length_tab, get_d_tab}
use Rattle.line_pixels.specs.declared.LinePixel.{LinePixel}
use Rattle.line_pixels.specs.declared.Candidate.{Candidate}
use Rattle.line_pixels.specs.declared.Lines.{Lines}
use Rattle.line_pixels.specs.Pixels.{no_pixel, deposited, backdrop_of, backdrop_line, backdrop_lines}
use Rattle.line_pixels.specs.theorems.Pixels.{length_backdrop, get_d_backdrop}
use Rattle.line_laying.specs.declared.Shown.{Shown}
use Rattle.line_laying.specs.Laying.{lay_line, lay_lines}
use Rattle.line_laying.specs.Order.{Has, nearness, Seen, at, Covers, NoTies, lay_all, main_row, sub_row, bare, nearest}

module _ {S : Type 0} where
  -- then one pixel is seen
  pub one_seen : {c : S → Candidate} {b p q : LinePixel} → NoTies c → Seen c b p → Seen c b q → p ≡ q
  one_seen n (bare e p) (bare f q) = p ∙ sym q
  one_seen n (bare e p) (nearest k o g q) = absurd (e k o)
  one_seen n (nearest k o g p) (bare f q) = absurd (f k o)
  one_seen {c} n (nearest k o g p) (nearest j o' g' q) =
      p ∙ (ap (λ (i : S). (c i).pixel) (n k j o o' (omega (arith, g j o', g' k o))) ∙ sym q)

  -- a pixel after the candidates of the layers ks, in that order
  unfoldable laid : (S → Candidate) → List S → LinePixel → LinePixel
  laid c [] h = h
  laid c (k ∷ ks) h = laid c ks (deposited h (c k))

  module _ (c : S → Candidate) where
    -- what it is: what was held, or the nearest of those laid
    data Best (ks : List S) (h p : LinePixel) : Type 0 where
      kept : p ≡ h → ((j : S) → Memᴰ j ks → Has c j → nearness c j < h.z.0) → Best ks h p
      over : (k : S) → Has c k → h.z.0 ≤ nearness c k → ((j : S) → Memᴰ j ks → Has c j → nearness c j ≤ nearness c k) →
          p ≡ (c k).pixel → Best ks h p

    -- what holds of k, and of each candidate of ks, holds of each candidate of k ∷ ks
    more : (P : S → Type 0) (k : S) {ks : List S} → (Has c k → P k) → ((j : S) → Memᴰ j ks → Has c j → P j) →
        (j : S) → Memᴰ j (k ∷ ks) → Has c j → P j
    more P k a g j m o =
        ⊎_elim (λ e. subst (λ (i : S). Has c i → P i) (sym e) a o) (λ t. g j t o) (Memᴰ.cases_cons m)

    -- k is laid and is not seen
    under : (k : S) {ks : List S} {h p : LinePixel} → (Has c k → nearness c k < h.z.0) → Best ks h p → Best (k ∷ ks) h p
    under k {ks} {h} u (kept e g) = kept e (more (λ i. nearness c i < h.z.0) k u g)
    under k u (over j o l g e) = over j o l (more (λ i. nearness c i ≤ nearness c j) k (λ t. omega (arith, u t)) g) e

    -- k is laid over h
    above : (k : S) {ks : List S} {h p : LinePixel} → Has c k → h.z.0 ≤ nearness c k → Best ks (c k).pixel p → Best (k ∷ ks) h p
    above k o l (kept e g) =
        over k o l (more (λ i. nearness c i ≤ nearness c k) k (λ t. omega arith) (λ j m t. omega (arith, g j m t))) e
    above k o l (over j o' l' g e) =
        over j o' (omega arith) (more (λ i. nearness c i ≤ nearness c j) k (λ t. l') g) e

    best : (ks : List S) (h : LinePixel) → Best ks h (laid c ks h)
    unfolding laid
    best [] h = kept refl (λ j m o. absurd (Memᴰ.not-nil m))
    best (k ∷ ks) h = go (c k).opaque refl (leb h.z.0 (nearness c k)) refl (best ks (deposited h (c k)))
      where
        go : {p : LinePixel} (o : Bool) → (c k).opaque ≡ o → (b : Bool) → leb h.z.0 (nearness c k) ≡ b →
            Best ks (cond (o && b) (c k).pixel h) p → Best (k ∷ ks) h p
        go false e b f r = under k (λ t. absurd (false≢true (sym e ∙ t))) r
        go true e false f r = under k (λ t. leb-false h.z.0 (nearness c k) f) r
        go true e true f r = above k e (leb-true h.z.0 (nearness c k) f) r

    -- over a pixel of priority 0, where every layer that has a candidate is laid
    laid_seen : (ks : List S) (h : LinePixel) → h.z.0 ≡ 0 → ((k : S) → Has c k → Memᴰ k ks) → Seen c h (laid c ks h)
    laid_seen ks h e m = go (best ks h)
      where
        go : {p : LinePixel} → Best ks h p → Seen c h p
        go (kept q g) = bare (λ k o. omega (arith, g k (m k o) o)) q
        go (over k o l g q) = nearest k o (λ j o'. g j (m j o') o') q

  -- one screen's line after the layers ks, in that order
  unfoldable lays : (S → ℕ → Candidate) → List S → List LinePixel → List LinePixel
  lays c [] l = l
  lays c (k ∷ ks) l = lays c ks (lay_line (c k) l)

  module _ (c : S → ℕ → Candidate) where
    length_lays : (ks : List S) (l : List LinePixel) → length l ≡ 256 → length (lays c ks l) ≡ 256
    unfolding lays
    length_lays [] l e = e
    length_lays (k ∷ ks) l e = length_lays ks (lay_line (c k) l) (length_tab (λ x. deposited (get_or l x no_pixel) (c k x)) 256)

    -- a line is laid pixel by pixel
    lays_at : (ks : List S) (l : List LinePixel) (x : ℕ) → x < 256 →
        get_or (lays c ks l) x no_pixel ≡ laid (at c x) ks (get_or l x no_pixel)
    unfolding lays laid
    lays_at [] l x h = refl
    lays_at (k ∷ ks) l x h =
        lays_at ks (lay_line (c k) l) x h
        ∙ ap (laid (at c x) ks) (get_d_tab (λ y. deposited (get_or l y no_pixel) (c k y)) 256 x no_pixel h)

    lays_seen : (ks : List S) (colour x : ℕ) → x < 256 → ((k : S) → Has (at c x) k → Memᴰ k ks) →
        Seen (at c x) (backdrop_of colour) (get_or (lays c ks (backdrop_line colour)) x no_pixel)
    lays_seen ks colour x h m =
        subst (Seen (at c x) (backdrop_of colour))
        (sym (lays_at ks (backdrop_line colour) x h ∙ ap (laid (at c x) ks) (get_d_backdrop colour x h)))
        (laid_seen (at c x) ks (backdrop_of colour) refl m)

    one_line : (ks js : List S) → Covers c ks → Covers c js → ((x : ℕ) → x < 256 → NoTies (at c x)) → (colour : ℕ) →
        lays c ks (backdrop_line colour) ≡ lays c js (backdrop_line colour)
    one_line ks js m n t colour =
        let long = length_lays ks (backdrop_line colour) (length_backdrop colour) in
        ext_get_or no_pixel _ _ (long ∙ sym (length_lays js (backdrop_line colour) (length_backdrop colour)))
        (λ x h.
        let b : x < 256 = omega (arith, long) in
        one_seen (t x b) (lays_seen ks colour x b (m x b)) (lays_seen js colour x b (n x b)))

  module _ (shown : S → Shown) (row : S → ℕ → Candidate) where
    -- Said once of a screen: how its line is taken from the lines, what its candidates are and in which colour it starts.
    module _ (of : Lines → List LinePixel) (on : S → ℕ → Candidate) (colour : ℕ)
        (Laid-on : (k : S) (lines : Lines) → of (lay_lines (shown k) (row k) lines) ≡ lay_line (on k) (of lines)) where
      screen_line : (ks : List S) (lines : Lines) → of (lay_all shown row ks lines) ≡ lays on ks (of lines)
      unfolding lay_all lays
      screen_line [] lines = refl
      screen_line (k ∷ ks) lines =
          screen_line ks (lay_lines (shown k) (row k) lines) ∙ ap (lays on ks) (Laid-on k lines)

      module _ (start : Lines) (starts : of start ≡ backdrop_line colour) where
        from_start : (ks : List S) → lays on ks (backdrop_line colour) ≡ of (lay_all shown row ks start)
        from_start ks = sym (screen_line ks start ∙ ap (lays on ks) starts)

        screen_seen : (ks : List S) → Covers on ks → (x : ℕ) → x < 256 →
            Seen (at on x) (backdrop_of colour) (get_or (of (lay_all shown row ks start)) x no_pixel)
        screen_seen ks m x h =
            subst (λ (l : List LinePixel). Seen (at on x) (backdrop_of colour) (get_or l x no_pixel)) (from_start ks)
            (lays_seen on ks colour x h (m x h))

        one_screen : (ks js : List S) → Covers on ks → Covers on js →
            ((x : ℕ) → x < 256 → NoTies (at on x)) → of (lay_all shown row ks start) ≡ of (lay_all shown row js start)
        one_screen ks js m n t = sym (from_start ks) ∙ (one_line on ks js m n t colour ∙ from_start js)

    module _ (main sub : ℕ) where
      -- From the backdrops, every layer that has a candidate laid at least once, in whatever order: at each pixel of the main
      -- line the candidate of greatest priority is seen, or the backdrop where there is none.
      pub main_seen : (ks : List S) → Covers (main_row shown row) ks → (x : ℕ) → x < 256 →
          Seen (at (main_row shown row) x) (backdrop_of main) (get_or (lay_all shown row ks (backdrop_lines main sub)).main x no_pixel)
      main_seen = screen_seen (λ l. l.main) (main_row shown row) main (λ k l. refl) (backdrop_lines main sub) refl

      -- and so of the sub line
      pub sub_seen : (ks : List S) → Covers (sub_row shown row) ks → (x : ℕ) → x < 256 →
          Seen (at (sub_row shown row) x) (backdrop_of sub) (get_or (lay_all shown row ks (backdrop_lines main sub)).sub x no_pixel)
      sub_seen = screen_seen (λ l. l.sub) (sub_row shown row) sub (λ k l. refl) (backdrop_lines main sub) refl

      -- So where no two candidates tie, any two orders leave the same lines.
      pub order_never_shows : (ks js : List S) → Covers (main_row shown row) ks → Covers (sub_row shown row) ks → Covers (main_row shown row) js → Covers (sub_row shown row) js →
          ((x : ℕ) → x < 256 → NoTies (at (main_row shown row) x)) → ((x : ℕ) → x < 256 → NoTies (at (sub_row shown row) x)) →
          lay_all shown row ks (backdrop_lines main sub) ≡ lay_all shown row js (backdrop_lines main sub)
      order_never_shows ks js m m' n n' t u =
          λ i. record {
            main = one_screen (λ l. l.main) (main_row shown row) main (λ k l. refl) (backdrop_lines main sub) refl ks js m n t i;
            sub = one_screen (λ l. l.sub) (sub_row shown row) sub (λ k l. refl) (backdrop_lines main sub) refl ks js m' n' u i;
          }
