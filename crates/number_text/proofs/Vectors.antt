-- Worked texts, at which the definitions compute.
use Rattle.std.specs.Prelude.{◌≡◌, refl, [], ◌∷◌, pos, negsuc, Some, None, Ok, Err, codes}
use Rattle.number_text.specs.declared.NumberFault.TheVariants.{Missing, NotNumber, OutOfRange}
use Rattle.number_text.specs.NumberTexts.{units_of, value_of}
use Rattle.number_text.specs.CountTexts.{count_of}
use Rattle.number_text.specs.ListTexts.{list_of}

small_exponent : value_of (codes "1e-05") ≡ Ok (pos 10000000000000)
unfolding units_of value_of
small_exponent = refl

point_first : value_of (codes "+.5") ≡ Ok (pos 500000000000000000)
unfolding units_of value_of
point_first = refl

zero_value : value_of (codes "0e999999") ≡ Ok (pos 0)
unfolding units_of value_of
zero_value = refl

one_unit : value_of (codes "1e-18") ≡ Ok (pos 1)
unfolding units_of value_of
one_unit = refl

tenth_of_a_unit : value_of (codes "1e-19") ≡ Err OutOfRange
unfolding units_of value_of
tenth_of_a_unit = refl

too_large : value_of (codes "1e18") ≡ Err OutOfRange
unfolding units_of value_of
too_large = refl

empty_text : value_of (codes "") ≡ Err Missing
unfolding units_of value_of
empty_text = refl

not_available : value_of (codes " NA ") ≡ Err Missing
unfolding units_of value_of
not_available = refl

lone_point : value_of (codes ".") ≡ Err NotNumber
unfolding units_of value_of
lone_point = refl

no_exponent : value_of (codes "1e") ≡ Err NotNumber
unfolding units_of value_of
no_exponent = refl

decimal_comma : value_of (codes "1,5") ≡ Err NotNumber
unfolding units_of value_of
decimal_comma = refl

leading_zeros : count_of 1000000 (codes "007") ≡ Some 7
unfolding count_of
leading_zeros = refl

signed_count : count_of 1000000 (codes "+7") ≡ None
unfolding count_of
signed_count = refl

two_items : list_of (negsuc 8) (pos 9) 2 (codes "-1, 2") ≡ Some (negsuc 0 ∷ pos 2 ∷ [])
unfolding list_of
two_items = refl
