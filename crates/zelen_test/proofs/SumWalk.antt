-- The walk through the labellings with a given sum, as a part of the walk through all.
use Rattle.std.proofs.Common.{◌≡◌, ℕ, ◌<◌, ◌≤◌, cond, List, [], ◌∷◌, length, Bool, true, false, nat_eq, inl, inr, refl, sym, ◌∙◌, ap, subst, arith}
use Rattle.std.specs.Prelude.{Contains}
use Rattle.std.specs.Cmp.Lexicographic.{pointwise, same_text}
use Rattle.std.specs.List.{filter}
use Rattle.weights.proofs.Members.{Contains-cons, Contains-filter, same_refl}
use Rattle.enumerate.specs.Walk.{BeginsWith, StepsThrough, members_after}
use Rattle.enumerate.proofs.Walking.{Contains-next}
use Rattle.networks.proofs.Images.{filtered_from}
use Rattle.strata_cells.specs.declared.stratum.Stratum.{Stratum}
use Rattle.strata_cells.specs.Strata.{strata_labellings}
use Rattle.zelen_test.specs.Zelen.{has_sum}
use Rattle.zelen_test.specs.SumSteps.{IsLastWith, IsOnward}

-- ---- members of a part

module _ (p : List ℕ → Bool) where
  -- those after a member of the part
  after-filter : (x : List ℕ) (all : List (List ℕ)) → p x ≡ true → members_after x (filter p all) ≡ filter p (members_after x all)
  after-filter x [] e = refl
  after-filter x (y ∷ ys) e = by (pointwise nat_eq x y) (p y) refl refl (after-filter x ys e)
    where
      by : (b c : Bool) → pointwise nat_eq x y ≡ b → p y ≡ c → members_after x (filter p ys) ≡ filter p (members_after x ys)
          → members_after x (cond c (y ∷ filter p ys) (filter p ys)) ≡ filter p (cond b ys (members_after x ys))
      by true true s t later = rw s refl
      by true false s t later = (let same : p x ≡ p y = ap p (same_text x y (sym s)) in absurd (cc (same, e, t)))
      by false true s t later = rw s later
      by false false s t later = later

  passing : (y : List ℕ) (ys : List (List ℕ)) → p y ≡ true → filter p (y ∷ ys) ≡ y ∷ filter p ys
  passing y ys e = rw e refl

  missing : (y : List ℕ) (ys : List (List ℕ)) → p y ≡ false → filter p (y ∷ ys) ≡ filter p ys
  missing y ys e = rw e refl

-- a list has one last member
one-last : (all : List (List ℕ)) (x z : List ℕ) → Contains all x → members_after x all ≡ [] → Contains all z → members_after z all ≡ [] → x ≡ z
one-last [] x z c e d f = absurd (none x c)
  where
    none : (x : List ℕ) → Contains [] x → ⊥
    none x (i, below, is) = omega (arith, below)
one-last (y ∷ ys) x z c e d f = by (one-last ys x z) (pointwise nat_eq x y) (pointwise nat_eq z y) refl refl e f
  where
    same : (v : List ℕ) → pointwise nat_eq v y ≡ true → v ≡ y
    same v s = same_text v y (sym s)

    other : (v : List ℕ) → Contains (y ∷ ys) v → pointwise nat_eq v y ≡ false → Contains ys v
    other v m s = elim (Contains-cons y v ys m) [
      | inl here ↦ absurd (cc (s, ap (λ u. pointwise nat_eq v u) here ∙ same_refl v))
      | inr later ↦ later
    ]

    empty : (v : List ℕ) → ys ≡ [] → Contains ys v → ⊥
    empty v n m = (let in-none : Contains [] v = subst (λ us. Contains us v) n m in omega (arith, in-none.1))

    by : (Contains ys x → members_after x ys ≡ [] → Contains ys z → members_after z ys ≡ [] → x ≡ z) → (a b : Bool) → pointwise nat_eq x y ≡ a → pointwise nat_eq z y ≡ b → cond a ys (members_after x ys) ≡ [] → cond b ys (members_after z ys) ≡ [] → x ≡ z
    by later true true s t e f = same x s ∙ sym (same z t)
    by later true false s t e f = absurd (empty z e (other z d t))
    by later false true s t e f = absurd (empty x f (other x c s))
    by later false false s t e f = later (other x c s) e (other z d t) f

-- ---- moving on

module _ (strata : List Stratum) (given : ℕ) where
  abbrev all : List (List ℕ)
  all = strata_labellings strata

  abbrev p : List ℕ → Bool
  p = has_sum strata given

  -- on the way no labelling with the sum was left out
  pub record IsPassing (old labels : List ℕ) : Type 0 where
    pub member : Contains all labels
    pub same : filter p (members_after old all) ≡ filter p (members_after labels all)

  module _ (old labels new : List ℕ) (h : IsPassing old labels) where
    pub passing-next : StepsThrough all labels true new → has_sum strata given new ≡ false → IsPassing old new
    passing-next t e = record {
      member = Contains-next labels new all t.onward;
      same = h.same ∙ ap (filter p) t.onward ∙ missing p new (members_after new all) e;
    }

    pub onward-found : StepsThrough all labels true new → has_sum strata given new ≡ true → IsOnward strata given old true new
    onward-found t e = record {
      member = Contains-next labels new all t.onward;
      onward = h.same ∙ ap (filter p) t.onward ∙ passing p new (members_after new all) e;
      has = λ q. e;
      last = λ q. absurd (cc q);
    }

  -- ---- a step

  module _ (old : List ℕ) (m : Contains (filter p all) old) where
    pub old-in : Contains all old
    old-in = (filtered_from p old all m).0

    old-has : p old ≡ true
    old-has = (filtered_from p old all m).1

    pub step-found : (new : List ℕ) → IsOnward strata given old true new → StepsThrough (filter p all) old true new
    step-found new o = record {
      onward = after-filter p old all old-has ∙ o.onward ∙ ap (λ vs. new ∷ vs) (sym (after-filter p new all (o.has refl)));
      stays = tt;
    }

    pub step-none : (end new : List ℕ) → IsOnward strata given old false end → IsLastWith strata given new → StepsThrough (filter p all) old false new
    step-none end new o l =
        let none : members_after old (filter p all) ≡ [] = after-filter p old all old-has ∙ o.onward in
        record {
          onward = none;
          stays = one-last (filter p all) new old l.member l.last m none;
        }

  -- ---- back to the last one

  -- so many with the sum come after, and where fewer than all, this one has it
  pub record IsCounting (total left : ℕ) (labels : List ℕ) : Type 0 where
    pub member : Contains all labels
    pub counted : left ≡ length (filter p (members_after labels all))
    pub has : left < total → p labels ≡ true
    pub within : left ≤ total

  module _ (total : ℕ) (t : total ≡ length (filter p all)) where
    pub counted-last : (labels : List ℕ) → 1 ≤ total → IsCounting total 0 labels → IsLastWith strata given labels
    counted-last labels some c =
        let e : p labels ≡ true = c.has (omega (arith, some)) in
        record {
          member = Contains-filter p labels all c.member e;
          last = after-filter p labels all e ∙ none (filter p (members_after labels all)) (sym c.counted);
        }
      where
        none : (vs : List (List ℕ)) → length vs ≡ 0 → vs ≡ []
        none [] h = refl
        none (v ∷ vs) h = absurd (omega (arith, h))

  -- ---- the first one

  pub begins-here : (labels : List ℕ) → BeginsWith all labels → p labels ≡ true → BeginsWith (filter p all) labels
  begins-here labels b e =
      ap (filter p) b ∙ passing p labels (members_after labels all) e ∙ ap (λ vs. labels ∷ vs) (sym (after-filter p labels all e))

  pub begins-later : (labels new : List ℕ) (moved : Bool) → BeginsWith all labels → p labels ≡ false → 1 ≤ length (filter p all) → IsOnward strata given labels moved new → BeginsWith (filter p all) new
  begins-later labels new true b e some o =
      ap (filter p) b ∙ missing p labels (members_after labels all) e ∙ o.onward ∙ ap (λ vs. new ∷ vs) (sym (after-filter p new all (o.has refl)))
  begins-later labels new false b e some o =
      let none : length (filter p all) ≡ 0 = ap (λ vs. length (filter p vs)) b ∙ ap length (missing p labels (members_after labels all) e ∙ o.onward) in
      absurd (omega (arith, none, some))
