-- What is made of strata and of one more.
use Rattle.std.proofs.Common.{◌≡◌, ℕ, List, [], ◌∷◌, ◌++◌, map, append-nil, append_assoc, sym, ◌∙◌, ap}
use Rattle.std.specs.Prelude.{pos}
use Rattle.std.specs.List.{concat}
use Rattle.std.proofs.lemmas.List.{map-append}
use Rattle.sample_reader.specs.PooledSample.{labels_of}
use Rattle.sample_reader.specs.declared.subjects.Subject.{Subject}
use Rattle.stratified_ranks.specs.RankMade.{AreLists}
use Rattle.stratified_ranks.specs.RankRooms.{stratum_columns, rank_columns}
use Rattle.stratified_ranks.specs.StratifiedRanks.{ranks_in}
use Rattle.stratified_ranks.specs.StrataSteps.{part_of}
use Rattle.stratified_ranks.specs.declared.rank_strata.RankStrata.{RankStrata}

concat-more : (f : List Subject → List ℕ) (strata : List (List Subject)) (s : List Subject) → concat (map f (strata ++ s ∷ [])) ≡ concat (map f strata) ++ f s
concat-more f [] s = append-nil (f s)
concat-more f (t ∷ ts) s = ap (λ zs. f t ++ zs) (concat-more f ts s) ∙ sym (append_assoc (f t) (concat (map f ts)) (f s))

columns-more : (strata : List (List Subject)) (s : List Subject) → rank_columns (strata ++ s ∷ []) ≡ rank_columns strata ++ stratum_columns s
columns-more [] s = append-nil (stratum_columns s)
columns-more (t ∷ ts) s = ap (λ zs. stratum_columns t ++ zs) (columns-more ts s) ∙ sym (append_assoc (stratum_columns t) (rank_columns ts) (stratum_columns s))

pub lists-more : (strata : List (List Subject)) (s : List Subject) (old new : RankStrata) → AreLists strata old → new.parts ≡ old.parts ++ part_of s ∷ [] → new.columns ≡ old.columns ++ stratum_columns s → new.ranks ≡ old.ranks ++ map pos (ranks_in s) → new.labels ≡ old.labels ++ labels_of s
    → AreLists (strata ++ s ∷ []) new
lists-more strata s old new a p c r l = record {
  parts = p ∙ ap (λ xs. xs ++ part_of s ∷ []) a.parts ∙ sym (map-append part_of strata (s ∷ []));
  columns = c ∙ ap (λ xs. xs ++ stratum_columns s) a.columns ∙ sym (columns-more strata s);
  ranks = r ∙ ap (λ xs. xs ++ map pos (ranks_in s)) a.ranks ∙ sym (ap (map pos) (concat-more ranks_in strata s) ∙ map-append pos (concat (map ranks_in strata)) (ranks_in s));
  labels = l ∙ ap (λ xs. xs ++ labels_of s) a.labels ∙ sym (concat-more labels_of strata s);
}
