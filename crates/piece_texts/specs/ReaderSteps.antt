-- Where a reader of pieces stands, and which line may follow there.
use Rattle.std.specs.Prelude.{◌≡◌, ℕ, zero, suc, ◌-◌, ◌≤◌, List, [], ◌∷◌, ◌++◌, codes, Bool, true, false, Some, ◌⊎◌}
use Rattle.weights.specs.declared.TheConstants.{MAX}
use Rattle.piece_texts.specs.declared.piece.Piece.{Piece}
use Rattle.piece_texts.specs.declared.piece.PieceSum.{PieceSum}
use Rattle.piece_texts.specs.declared.reader.Reader.{Reader}
use Rattle.piece_texts.specs.declared.reader.Step.{Step}
use Rattle.piece_texts.specs.declared.reader.Step.TheVariants.{Outside, AtName, AtParts, AtPart, AtCount, InHead, AtTail}
use Rattle.piece_texts.specs.PieceTexts.{IsName, ended}
use Rattle.piece_texts.specs.FieldSteps.{IsTail, IsAfter}
use Rattle.piece_texts.specs.Places.{unknown}

-- what was read, and where the reader stands
pub record Reading : Type 0 where
  pub done : List Piece
  pub draft : Piece
  pub at : Step

abbrev pub reading : Reader → Reading
reading r = record { done = r.done.items; draft = r.draft; at = r.at }

abbrev pub fresh : Reading
fresh = record { done = []; draft = unknown; at = Outside }

abbrev pub with_tail : ℕ → PieceSum → Piece → Piece
with_tail zero sums d = record d { less = Some sums }
with_tail (suc zero) sums d = record d { greater = Some sums }
with_tail (suc (suc t)) sums d = record d { two = Some sums }

abbrev pub with_line : Reading → List ℕ → Reading
with_line s line = record s { draft = record s.draft { head = s.draft.head ++ ended line } }

abbrev pub at_end : Reading → Reading
at_end s = record { done = s.done ++ s.draft ∷ []; draft = unknown; at = Outside }

-- whether it stands behind a piece
abbrev pub behind : Step → List Piece → Bool
behind Outside (p ∷ pieces) = true
behind Outside [] = false
behind AtName pieces = false
behind AtParts pieces = false
behind (AtPart m) pieces = false
behind AtCount pieces = false
behind (InHead k) pieces = false
behind (AtTail from) pieces = false

abbrev pub is_whole : Reading → Bool
is_whole s = behind s.at s.done

-- a tail's line, of those from a place on
pub record TailLeads (from : ℕ) (s : Reading) (line : List ℕ) (next : Reading) : Type 0 where
  pub tail : ℕ
  pub sums : PieceSum
  pub is : IsTail from tail sums line
  pub leads : next ≡ record s { draft = with_tail tail sums s.draft; at = AtTail (suc tail) }

-- the end, where some tail was read
pub record EndLeads (from : ℕ) (s : Reading) (line : List ℕ) (next : Reading) : Type 0 where
  pub some : 1 ≤ from
  pub text : line ≡ codes "end"
  pub leads : next ≡ at_end s

-- where a line leads that may follow
abbrev pub Leads : Step → Reading → List ℕ → Reading → Type 0
Leads Outside s line next = (line ≡ codes "piece 1") × (next ≡ record s { at = AtName })
Leads AtName s line next =
    (name : List ℕ) × IsName name × (line ≡ codes "name " ++ name)
    × (next ≡ record s { draft = record s.draft { name = name }; at = AtParts })
Leads AtParts s line next =
    (n : ℕ) × IsAfter (codes "parts ") 1 64 n line
    × (next ≡ record s { draft = record s.draft { parts = n }; at = AtPart (n - 1) })
Leads (AtPart m) s line next =
    (i : ℕ) × IsAfter (codes "part ") 0 m i line
    × (next ≡ record s { draft = record s.draft { part = i }; at = AtCount })
Leads AtCount s line next =
    (k : ℕ) × IsAfter (codes "head ") 1 MAX k line × (next ≡ record s { at = InHead (k - 1) })
Leads (InHead (suc k)) s line next = next ≡ record (with_line s line) { at = InHead k }
Leads (InHead zero) s line next =
    (d : ℕ) × IsAfter (codes "total ") 1 MAX d line
    × (next ≡ record (with_line s line) {
      draft = record (with_line s line).draft { total = d };
      at = AtTail 0;
    })
Leads (AtTail from) s line next = TailLeads from s line next ⊎ EndLeads from s line next

-- whether a line may follow, and where it leads
abbrev pub Gives : Step → Reading → List ℕ → Reading → Bool → Type 0
Gives step s line next true = Leads step s line next
Gives step s line next false = (e : Reading) → Leads step s line e → ⊥
