-- Rows kept in lists of rooms, of cells and of heads.
use Rattle.std.proofs.Common.{◌≡◌, ℕ, zero, suc, ◌+◌, ◌*◌, ◌<◌, ◌≤◌, List, [], ◌∷◌, ◌++◌, length, take, drop, get_or, refl, sym, ◌∙◌, ap, arith}
use Rattle.std.specs.Prelude.{ℤ, pos}
use Rattle.std.specs.List.{AllByRecursion}
use Rattle.std.proofs.lemmas.List.{drop-drop, take_all, take-append-le, drop-append-le, length-drop, length-append, length_push}
use Rattle.stage_network.proofs.Roomwise.{all_at}
use Rattle.stage_network.specs.declared.row_heads.Head.{Head}
use Rattle.stage_network.specs.RowSteps.{Row, RowList, AreRows, rows_of}

abbrev pub row_at : ℕ → List ℤ → List ℕ → ℕ → Head → Row
row_at width rooms cells i h = record { room = take width (drop (i * width) rooms); lowest = h.lowest; stride = pos h.stride; cells = take h.len (drop h.start cells) }

abbrev pub no_head : Head
no_head = record { start = 0; len = 0; lowest = pos 0; stride = 0 }

pub length-rows : (width : ℕ) (rooms : List ℤ) (cells : List ℕ) (heads : List Head) → length (rows_of width rooms cells heads) ≡ length heads
length-rows width rooms cells [] = refl
length-rows width rooms cells (h ∷ heads) = ap suc (length-rows width (drop width rooms) cells heads)

pub rows-at : (width : ℕ) (rooms : List ℤ) (cells : List ℕ) (heads : List Head) (i : ℕ) (d : Row) (e : Head) → i < length heads → get_or (rows_of width rooms cells heads) i d ≡ row_at width rooms cells i (get_or heads i e)
rows-at width rooms cells [] i d e h = absurd (omega arith)
rows-at width rooms cells (a ∷ heads) zero d e h = let start : 0 * width ≡ 0 = omega arith in rw start refl
rows-at width rooms cells (a ∷ heads) (suc i) d e h =
    let on : width + i * width ≡ suc i * width = omega arith in
    rows-at width (drop width rooms) cells heads i d e (omega (arith, h))
    ∙ ap (λ r. record { room = take width r; lowest = (get_or heads i e).lowest; stride = pos (get_or heads i e).stride; cells = take (get_or heads i e).len (drop (get_or heads i e).start cells) }) (drop-drop (i * width) width rooms ∙ ap (λ m. drop m rooms) on)

-- a row of a list, by its head
module _ (width : ℕ) (rooms : List ℤ) (cells : List ℕ) (heads : List Head) (all : RowList) (is : record { width = width; rows = rows_of width rooms cells heads } ≡ all) (i : ℕ) (low : i < length all.rows) where
  pub row-below : i < length heads
  row-below = omega (arith, low, ap (λ (p : RowList). length p.rows) is, length-rows width rooms cells heads)

  pub row-is : (d : Row) (e : Head) → row_at width rooms cells i (get_or heads i e) ≡ get_or all.rows i d
  row-is d e = sym (rows-at width rooms cells heads i d e row-below) ∙ ap (λ (p : RowList). get_or p.rows i d) is

-- cells behind others
behind : (cells more : List ℕ) → take (length more) (drop (length cells) (cells ++ more)) ≡ more
behind [] more = take_all (length more) more (omega arith)
behind (c ∷ cells) more = behind cells more

before : (s l : ℕ) (cells more : List ℕ) → s + l ≤ length cells → take l (drop s (cells ++ more)) ≡ take l (drop s cells)
before s l cells more h = ap (take l) (drop-append-le s cells more (omega (arith, h))) ∙ take-append-le l (drop s cells) more (omega (arith, h, length-drop s cells))

pub rows-push : (width : ℕ) (rooms room : List ℤ) (cells more : List ℕ) (heads : List Head) (h : Head) → length rooms ≡ length heads * width → length room ≡ width → AllByRecursion (λ (h : Head). h.start + h.len ≤ length cells) heads → h.start ≡ length cells → h.len ≡ length more → rows_of width (rooms ++ room) (cells ++ more) (heads ++ h ∷ []) ≡ rows_of width rooms cells heads ++ record { room = room; lowest = h.lowest; stride = pos h.stride; cells = more } ∷ []
rows-push width [] room cells more [] h long wide within start len = rw (start, len, behind cells more, take_all width room (omega (arith, wide))) refl
rows-push width (x ∷ rooms) room cells more [] h long wide within start len = absurd (omega (arith, long))
rows-push width rooms room cells more (b ∷ heads) h long wide within start len =
    let front : width ≤ length rooms = omega (arith, long) in
    let left : length (drop width rooms) ≡ length heads * width = omega (arith, long, length-drop width rooms) in
    rw (take-append-le width rooms room front, drop-append-le width rooms room front, before b.start b.len cells more within.0)
    (ap (λ rs. record { room = take width rooms; lowest = b.lowest; stride = pos b.stride; cells = take b.len (drop b.start cells) } ∷ rs) (rows-push width (drop width rooms) room cells more heads h left wide within.1 start len))

within-longer : (m n : ℕ) → m ≤ n → (heads : List Head) → AllByRecursion (λ (h : Head). h.start + h.len ≤ m) heads → AllByRecursion (λ (h : Head). h.start + h.len ≤ n) heads
within-longer m n h [] a = tt
within-longer m n h (b ∷ heads) a = (omega (arith, a.0, h), within-longer m n h heads a.1)

within-push : (m : ℕ) (heads : List Head) (h : Head) → AllByRecursion (λ (h : Head). h.start + h.len ≤ m) heads → h.start + h.len ≤ m → AllByRecursion (λ (h : Head). h.start + h.len ≤ m) (heads ++ h ∷ [])
within-push m [] h a k = (k, tt)
within-push m (b ∷ heads) h a k = (a.0, within-push m heads h a.1 k)

pub are-rows-longer : (width : ℕ) (rooms : List ℤ) (cells more : List ℕ) (heads : List Head) → AreRows width rooms cells heads → AreRows width rooms (cells ++ more) heads
are-rows-longer width rooms cells more heads r = record {
  long = r.long;
  within = within-longer (length cells) (length (cells ++ more)) (omega (arith, length-append cells more)) heads r.within;
}

pub are-rows-push : (width : ℕ) (rooms room : List ℤ) (cells more : List ℕ) (heads : List Head) (h : Head) → AreRows width rooms cells heads → length room ≡ width → h.start ≡ length cells → h.len ≡ length more → AreRows width (rooms ++ room) (cells ++ more) (heads ++ h ∷ [])
are-rows-push width rooms room cells more heads h r wide start len =
    record {
      long = rw (length-append rooms room, length_push heads h) (omega (arith, r.long, wide));
      within = within-push (length (cells ++ more)) heads h (are-rows-longer width rooms cells more heads r).within (omega (arith, start, len, length-append cells more));
    }

pub within-at : (m : ℕ) (heads : List Head) (i : ℕ) (d : Head) → AllByRecursion (λ (h : Head). h.start + h.len ≤ m) heads → i < length heads → (get_or heads i d).start + (get_or heads i d).len ≤ m
within-at m heads i d a h = all_at (λ (h : Head). h.start + h.len ≤ m) heads i d a h
