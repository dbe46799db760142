-- The piece of a part of a run has the form of a piece.
use Rattle.std.proofs.Common.{◌≡◌, ◌≢◌, ◌⊎◌, inl, inr, ℕ, suc, ◌+◌, ◌≤◌, List, [], ◌∷◌, length, Bool, true, false, cond, nat_eq, Option, Some, None, arith, refl, subst, ◌∙◌}
use Rattle.std.specs.Prelude.{IfSome, option_map}
use Rattle.weights.specs.Conditional.{ConditionalTest, observed_statistic, total}
use Rattle.weights.specs.Frames.{first_tail}
use Rattle.weights.specs.Wide.{too_wide}
use Rattle.weights.specs.declared.TheConstants.{MAX}
use Rattle.weights.specs.declared.tails.Tail.{Tail}
use Rattle.weights.specs.declared.tails.Tail.TheVariants.{Less, Greater, Two}
use Rattle.weights.specs.declared.tails.Tails.{Tails}
use Rattle.networks.specs.Asked.{asks}
use Rattle.networks.specs.Network.{Network}
use Rattle.settings.specs.Usable.{IsPieceOf}
use Rattle.settings.specs.declared.pieces.PieceOf.{PieceOf}
use Rattle.settings.specs.declared.tails.TailChoice.{TailChoice}
use Rattle.settings.specs.declared.tails.TailChoice.TheVariants as choice
use Rattle.piece_texts.specs.PieceTexts.{IsPiece, TailFits, line_count}
use Rattle.pieces.proofs.WrittenPieces.{fits-written}
use Rattle.run_outcome.specs.Divided.{IsDivisible, Serves}
use Rattle.run_outcome.specs.Outcome.{IsPartOf, asked, head_for, part_of, piece_for, tail_piece, tails_in}
use Rattle.run_outcome.specs.Question.{Question}
use Rattle.run_outcome.specs.declared.parts.PartOf.{PartOf}
use Rattle.run_outcome.specs.declared.reports.Asking.{Asking}
use Rattle.run_outcome.proofs.HeadLines.{head-is}
use Rattle.run_outcome.proofs.RunNameShape.{name-is}
use Rattle.run_outcome.proofs.Showable.{total-fits}

-- ---- tails

asks-own : (test : ConditionalTest) (tail : Tail) → asks (tails_in test) tail ≡ test.has_tail tail
asks-own test Less = refl
asks-own test Greater = refl
asks-own test Two = refl

-- of a test that has a tail some tail is asked
some-asked : (test : ConditionalTest) (ask : TailChoice) (tails : Tails) → test.has_tail (first_tail test) ≡ true → asked ask (tails_in test) ≡ Some tails
    → (tail : Tail) × (asks tails tail ≡ true)
some-asked test choice.All tails has is =
    let same : tails_in test ≡ tails = cc in
    (first_tail test, subst (λ t. asks t (first_tail test) ≡ true) same (asks-own test (first_tail test) ∙ has))
some-asked test choice.Less tails has is = (Less, by (test.has_tail Less) is)
  where
    by : (b : Bool) → cond b (Some (record { less = true; greater = false; two = false })) None ≡ Some tails → tails.less ≡ true
    by true e = cc
    by false e = absurd cc
some-asked test choice.Greater tails has is = (Greater, by (test.has_tail Greater) is)
  where
    by : (b : Bool) → cond b (Some (record { less = false; greater = true; two = false })) None ≡ Some tails → tails.greater ≡ true
    by true e = cc
    by false e = absurd cc
some-asked test choice.Two tails has is = (Two, by (test.has_tail Two) is)
  where
    by : (b : Bool) → cond b (Some (record { less = false; greater = false; two = true })) None ≡ Some tails → tails.two ≡ true
    by true e = cc
    by false e = absurd cc

-- the sums of an asked tail fit
fits-of : (part : PartOf) (running network : Tail → Network) (test : ConditionalTest) (tail : Tail) (is_asked : Bool) → (is_asked ≡ true → Serves test tail (running tail) (network tail)) → TailFits (tail_piece part network tail is_asked)
fits-of part running network test tail true serves = fits-written (running tail) (network tail) tail (serves refl).written (serves refl).lawful part.at part.parts part.part
fits-of part running network test tail false serves = tt

there : (part : PartOf) (network : Tail → Network) (tail : Tail) (is_asked : Bool) → is_asked ≡ true → tail_piece part network tail is_asked ≢ None
there part network tail true e none = cc
there part network tail false e none = absurd cc

-- ---- lines

pub lines-within : (text : List ℕ) → line_count text ≤ length text
lines-within [] = omega arith
lines-within (byte ∷ text) = by (nat_eq byte 10) (lines-within text)
  where
    by : (b : Bool) → line_count text ≤ length text → cond b 1 0 + line_count text ≤ suc (length text)
    by true few = omega (arith, few)
    by false few = omega (arith, few)

-- ---- the part that settings ask

pub usable-part : (file : List ℕ) (piece : PieceOf) → IsPieceOf piece → IsPartOf (part_of file piece)
usable-part file piece usable = record { name = name-is piece.given file; some = usable.some; few = usable.few; below = usable.part }

pub asked-part : (file : List ℕ) (piece : Option PieceOf) → IfSome piece IsPieceOf → IfSome (option_map (part_of file) piece) IsPartOf
asked-part file None usable = tt
asked-part file (Some piece) usable = usable-part file piece usable

-- ---- what the parts of a run answer

pub divisible-by : (test : ConditionalTest) (running network : Tail → Network) (tails : Tails) → test.has_tail (first_tail test) ≡ true → 1 ≤ total test → too_wide test ≡ None
    → (tails.less ≡ true → Serves test Less (running Less) (network Less)) → (tails.greater ≡ true → Serves test Greater (running Greater) (network Greater)) → (tails.two ≡ true → Serves test Two (running Two) (network Two))
    → IsDivisible test running network tails
divisible-by test running network tails has some fits less greater two = record { some_tail = has; some_total = some; fits = fits; networks = each }
  where
    each : (tail : Tail) → asks tails tail ≡ true → Serves test tail (running tail) (network tail)
    each Less e = less e
    each Greater e = greater e
    each Two e = two e

-- ---- its piece

some-piece : (part : PartOf) (asking : Asking) (tails : Tails) (question : Question) → (tail : Tail) × (asks tails tail ≡ true)
    → ((piece_for part asking tails question).less ≢ None) ⊎ (((piece_for part asking tails question).greater ≢ None) ⊎ ((piece_for part asking tails question).two ≢ None))
some-piece part asking tails question (Less, e) = inl (there part question.network Less tails.less e)
some-piece part asking tails question (Greater, e) = inr (inl (there part question.network Greater tails.greater e))
some-piece part asking tails question (Two, e) = inr (inr (there part question.network Two tails.two e))

-- it has the form of a piece, where its lines are not too many
pub piece-formed : (part : PartOf) (asking : Asking) (tails : Tails) (question : Question) → IsPartOf part → asked asking.tail (tails_in question.test) ≡ Some tails
    → IsDivisible question.test question.running question.network tails → line_count (head_for asking question) ≤ MAX → IsPiece (piece_for part asking tails question)
piece-formed part asking tails question is are divisible few = record {
  name = is.name;
  some_parts = is.some;
  few_parts = is.few;
  part = is.below;
  head = head-is asking.title question.sizes question.dropped question.extra (observed_statistic question.test) question.test.scale (total question.test);
  few_lines = few;
  some_total = divisible.some_total;
  total = total-fits question.test divisible.fits;
  less = fits-of part question.running question.network question.test Less tails.less (divisible.networks Less);
  greater = fits-of part question.running question.network question.test Greater tails.greater (divisible.networks Greater);
  two = fits-of part question.running question.network question.test Two tails.two (divisible.networks Two);
  asked = some-piece part asking tails question (some-asked question.test asking.tail tails divisible.some_tail are);
}
