-- One more arc.
use Rattle.std.proofs.Common.{◌≡◌, ◌≢◌, ℕ, zero, suc, ◌+◌, ◌*◌, ◌<◌, ◌≤◌, List, [], ◌∷◌, ◌++◌, length, take, drop, map, get_or, set, false, refl, arith, sym, ◌∙◌, ap, inl, inr, ◌⊎◌, append-nil, nat_eq}
use Rattle.std.specs.List.{AllByRecursion}
use Rattle.std.proofs.lemmas.Bool.{cases_eq}
use Rattle.std.proofs.lemmas.List.{length-drop, length-set, length_push, length-append, get_or-set_same, get_or-set_other, get_or_append_left, get_or_push, take-append-le, drop-append-le, take_all, drop-drop, map_push, length-map, get_or-map}
use Rattle.std.proofs.lemmas.List.Elements.{filter-append}
use Rattle.stage_network.specs.declared.links.Link.{Link}
use Rattle.stage_network.specs.ArcSteps.{Arc, bucket, arcs_of, IsPlace, IsLinked, IsArcs}

-- the arcs that numbers and choices stand for
abbrev pub arc_at : ℕ → List ℕ → List Link → ℕ → Link → Arc
arc_at width choices links i a = record { start = a.start; end = a.end; choice = take width (drop (i * width) choices); weight = a.weight; target = a.target }

pub length-arcs : (width : ℕ) (choices : List ℕ) (links : List Link) → length (arcs_of width choices links) ≡ length links
length-arcs width choices [] = refl
length-arcs width choices (a ∷ links) = ap suc (length-arcs width (drop width choices) links)

pub arcs-at : (width : ℕ) (choices : List ℕ) (links : List Link) (i : ℕ) (d : Arc) (e : Link) → i < length links → get_or (arcs_of width choices links) i d ≡ arc_at width choices links i (get_or links i e)
arcs-at width choices [] i d e h = absurd (omega arith)
arcs-at width choices (a ∷ links) zero d e h = let start : 0 * width ≡ 0 = omega arith in rw start refl
arcs-at width choices (a ∷ links) (suc i) d e h =
    let on : width + i * width ≡ suc i * width = omega arith in
    arcs-at width (drop width choices) links i d e (omega (arith, h))
    ∙ ap (λ r. record { start = (get_or links i e).start; end = (get_or links i e).end; choice = take width r; weight = (get_or links i e).weight; target = (get_or links i e).target }) (drop-drop (i * width) width choices ∙ ap (λ m. drop m choices) on)

pub arcs-push : (width : ℕ) (choices choice : List ℕ) (links : List Link) (a : Link) → length choices ≡ length links * width → length choice ≡ width → arcs_of width (choices ++ choice) (links ++ a ∷ []) ≡ arcs_of width choices links ++ record { start = a.start; end = a.end; choice = choice; weight = a.weight; target = a.target } ∷ []
arcs-push width [] choice [] a long wide = ap (λ k. record { start = a.start; end = a.end; choice = k; weight = a.weight; target = a.target } ∷ []) (take_all width choice (omega arith))
arcs-push width (x ∷ choices) choice [] a long wide = absurd (omega arith)
arcs-push width choices choice (b ∷ links) a long wide =
    let front : width ≤ length choices = omega (arith, long) in
    let left : length (drop width choices) ≡ length links * width = omega (arith, long, length-drop width choices) in
    rw (take-append-le width choices choice front, drop-append-le width choices choice front) (ap (λ ns. record { start = b.start; end = b.end; choice = take width choices; weight = b.weight; target = b.target } ∷ ns) (arcs-push width (drop width choices) choice links a left wide))

pub choice-fits : (width n i : ℕ) → i < n → i * width + width ≤ n * width
choice-fits width n i h = grind arith

-- places
pub not_eq : (a b : ℕ) → a ≢ b → nat_eq a b ≡ false
not_eq a b ne = grind arith

pub bucket-none : (t : ℕ) (arcs : List Arc) → AllByRecursion (λ (a : Arc). a.target < t) arcs → bucket t arcs ≡ []
bucket-none t [] a = refl
bucket-none t (w ∷ arcs) a = let other : nat_eq w.target t ≡ false = not_eq w.target t (λ e. omega (arith, a.0, e)) in rw other (bucket-none t arcs a.1)

place-none : (arcs : List Arc) (t : ℕ) → AllByRecursion (λ (a : Arc). a.target < t) arcs → IsPlace arcs t (length arcs) 0
place-none arcs t a = record {
  low = omega arith;
  all = sym (ap (bucket t) (take_all (length arcs) arcs (omega arith)) ∙ bucket-none t arcs a);
  here = λ i d e. absurd (omega (arith, e));
}

module _ (arcs : List Arc) (y : Arc) where
  place-keeps : (t m a : ℕ) → m ≤ length arcs → IsPlace arcs t m a → IsPlace (arcs ++ y ∷ []) t m a
  place-keeps t m a h p = record {
    low = p.low;
    all = rw (take-append-le a arcs (y ∷ []) (omega (arith, h, p.low)), take-append-le m arcs (y ∷ []) h) p.all;
    here = λ i d e. ap (λ (w : Arc). w.target) (get_or_append_left arcs (y ∷ []) d i (omega (arith, h, p.low, e))) ∙ p.here i d e;
  }

  whole : take (length arcs + 1) (arcs ++ y ∷ []) ≡ arcs ++ y ∷ []
  whole = take_all (length arcs + 1) (arcs ++ y ∷ []) (omega (arith, length_push arcs y))

  place-past : (t a : ℕ) → y.target ≢ t → IsPlace arcs t (length arcs) a → IsPlace (arcs ++ y ∷ []) t (length arcs + 1) a
  place-past t a ne p =
      record {
        low = omega (arith, p.low);
        all = ap (bucket t) (take-append-le a arcs (y ∷ []) p.low) ∙ p.all ∙ ap (bucket t) (take_all (length arcs) arcs (omega arith))
            ∙ sym (ap (bucket t) whole ∙ filter-append (λ (a : Arc). nat_eq a.target t) arcs (y ∷ []) ∙ ap (λ zs. bucket t arcs ++ zs) (rw (not_eq y.target t ne) refl) ∙ append-nil (bucket t arcs));
        here = λ i d e. ap (λ (w : Arc). w.target) (get_or_append_left arcs (y ∷ []) d i (omega (arith, p.low, e))) ∙ p.here i d e;
      }

  place-here : IsPlace (arcs ++ y ∷ []) y.target (length arcs + 1) (length arcs + 1)
  place-here = record {
    low = omega arith;
    all = refl;
    here = λ i d e. ap (λ (w : Arc). w.target) (get_or_push arcs y d i (omega (arith, e)));
  }

targets-weaker : (s t : ℕ) → s ≤ t → (arcs : List Arc) → AllByRecursion (λ (a : Arc). a.target < s) arcs → AllByRecursion (λ (a : Arc). a.target < t) arcs
targets-weaker s t h [] a = tt
targets-weaker s t h (w ∷ arcs) a = (omega (arith, a.0, h), targets-weaker s t h arcs a.1)

targets-more : (t : ℕ) (arcs : List Arc) (y : Arc) → AllByRecursion (λ (a : Arc). a.target < t) arcs → y.target < t → AllByRecursion (λ (a : Arc). a.target < t) (arcs ++ y ∷ [])
targets-more t [] y a h = (h, tt)
targets-more t (w ∷ arcs) y a h = (a.0, targets-more t arcs y a.1 h)

pub last_or_before : (i n : ℕ) → i < n + 1 → (i ≡ n) ⊎ (i < n)
last_or_before i n h = grind arith

pub linked-more : (arcs : List Arc) (nexts heads : List ℕ) → IsLinked arcs nexts heads → IsLinked arcs nexts (heads ++ 0 ∷ [])
linked-more arcs nexts heads l =
    let longer : length (heads ++ 0 ∷ []) ≡ length heads + 1 = length_push heads 0 in
    record {
      targets = targets-weaker (length heads) (length (heads ++ 0 ∷ [])) (omega (arith, longer)) arcs l.targets;
      firsts = λ t h. elim (last_or_before t (length heads) (omega (arith, h, longer))) [
        | inl e ↦ rw (get_or_push heads 0 0 t (sym e)) (rw e (place-none arcs (length heads) l.targets))
        | inr low ↦ rw (get_or_append_left heads (0 ∷ []) 0 t low) (l.firsts t low)
      ];
      others = l.others;
    }

pub linked-push : (arcs : List Arc) (nexts heads : List ℕ) (y : Arc) → IsLinked arcs nexts heads → length nexts ≡ length arcs → y.target < length heads → IsLinked (arcs ++ y ∷ []) (nexts ++ get_or heads y.target 0 ∷ []) (set heads y.target (length arcs + 1))
linked-push arcs nexts heads y l same there =
    let size : length (set heads y.target (length arcs + 1)) ≡ length heads = length-set heads y.target (length arcs + 1) in
    record {
      targets = rw size (targets-more (length heads) arcs y l.targets there);
      firsts = λ t h.
          rw (length_push arcs y) (elim (cases_eq t y.target) [
            | inl e ↦ rw e (rw (get_or-set_same heads y.target (length arcs + 1) 0 there) (place-here arcs y))
            | inr ne ↦ rw (get_or-set_other heads y.target t (length arcs + 1) 0 ne) (place-past arcs y t (get_or heads t 0) (λ e. ne (sym e)) (l.firsts t (omega (arith, h, size))))
          ]);
      others = λ i d h. elim (last_or_before i (length arcs) (omega (arith, h, length_push arcs y))) [
        | inl e ↦ rw (get_or_push arcs y d i (sym e), get_or_push nexts (get_or heads y.target 0) 0 i (same ∙ sym e)) (rw e (place-keeps arcs y y.target (length arcs) (get_or heads y.target 0) (omega arith) (l.firsts y.target there)))
        | inr low ↦ rw (get_or_append_left arcs (y ∷ []) d i low, get_or_append_left nexts (get_or heads y.target 0 ∷ []) 0 i (omega (arith, low, same))) (place-keeps arcs y (get_or arcs i d).target i (get_or nexts i 0) (omega (arith, low)) (l.others i d low))
      ];
    }

pub link-arcs : (width : ℕ) (choices : List ℕ) (links : List Link) (heads : List ℕ) → IsArcs width choices links heads → (choice : List ℕ) (a : Link) (n : ℕ) → length choice ≡ width → a.target < length heads → a.next ≡ get_or heads a.target 0 → n ≡ length links + 1 → IsArcs width (choices ++ choice) (links ++ a ∷ []) (set heads a.target n)
link-arcs width choices links heads w choice a n wide there next count =
    let nexts = map (λ (b : Link). b.next) links in
    let same : length nexts ≡ length (arcs_of width choices links) = length-map links (λ (b : Link). b.next) ∙ sym (length-arcs width choices links) in
    let more : n ≡ length (arcs_of width choices links) + 1 = omega (arith, count, length-arcs width choices links) in
    record {
      long = rw (length-append choices choice, length_push links a) (omega (arith, w.long, wide));
      linked = rw (arcs-push width choices choice links a w.long wide, map_push (λ (b : Link). b.next) links a, next, more)
          (linked-push (arcs_of width choices links) nexts heads (record { start = a.start; end = a.end; choice = choice; weight = a.weight; target = a.target }) w.linked same there);
    }

pub more-arcs : (width : ℕ) (choices : List ℕ) (links : List Link) (heads : List ℕ) → IsArcs width choices links heads → IsArcs width choices links (heads ++ 0 ∷ [])
more-arcs width choices links heads w = record {
  long = w.long;
  linked = linked-more (arcs_of width choices links) (map (λ (b : Link). b.next) links) heads w.linked;
}

pub next-read : (links : List Link) (i : ℕ) (x : Link) → i < length links → x ≡ get_or links i x → x.next ≡ get_or (map (λ (b : Link). b.next) links) i 0
next-read links i x h e = ap (λ (b : Link). b.next) e ∙ sym (get_or-map (λ (b : Link). b.next) links i x 0 h)
