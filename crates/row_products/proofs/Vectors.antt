-- Worked values of the definitions.
use Rattle.std.proofs.Common.{◌≡◌, [], ◌∷◌, refl}
use Rattle.row_products.specs.RowProducts.{factorial, greatest_by_rows, greatest_product, least_by_rows, least_product}

six : factorial 6 ≡ 720
six = refl

-- three units over columns of two and four: 3, 0 and 2, 1
three_filled : greatest_product (2 ∷ 4 ∷ []) 3 ≡ 6
three_filled = refl

three_divided : least_product 2 3 ≡ 2
three_divided = refl

-- two rows of three: the tables weigh 4, 12 and 4
least_of_three : least_by_rows (3 ∷ 3 ∷ []) (2 ∷ 4 ∷ []) ≡ 2
least_of_three = refl

greatest_of_three : greatest_by_rows (3 ∷ 3 ∷ []) (2 ∷ 4 ∷ []) ≡ 12
greatest_of_three = refl

-- rows of five, three and two: the tables weigh from 4 to 288
least_of_ten : least_by_rows (5 ∷ 3 ∷ 2 ∷ []) (2 ∷ 4 ∷ 4 ∷ []) ≡ 4
least_of_ten = refl

greatest_of_ten : greatest_by_rows (5 ∷ 3 ∷ 2 ∷ []) (2 ∷ 4 ∷ 4 ∷ []) ≡ 288
greatest_of_ten = refl
