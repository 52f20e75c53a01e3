-- The order of values is total.
use Rattle.std.specs.Prelude.{◌≡◌, refl}
use Rattle.std.specs.declared.cmp.Ordering.TheVariants.{Less, Equal}
use Rattle.std.specs.Ordering.{ordering_reverse, as_partial_cmp, eq_by_cmp}
use Rattle.std.specs.Cmp.{IsTotalOrder, IsPartialOrder, po}
use Rattle.std.proofs.lemmas.Cmp.{int_cmp_total, nat_list_cmp_total}
use Rattle.aria_value.specs.declared.value.Value.{Value}
use Rattle.aria_value.specs.declared.value.Value.TheVariants.{Null, Int, Text}
use Rattle.aria_value.specs.Order.{value_cmp}

turned : (a b : Value) → value_cmp a b ≡ ordering_reverse (value_cmp b a)
turned Null Null = refl
turned Null (Int b) = refl
turned Null (Text b) = refl
turned (Int a) Null = refl
turned (Int a) (Int b) = int_cmp_total.antisymm a b
turned (Int a) (Text b) = refl
turned (Text a) Null = refl
turned (Text a) (Int b) = refl
turned (Text a) (Text b) = nat_list_cmp_total.antisymm a b

chained : (a b c : Value) → value_cmp a b ≡ Less → value_cmp b c ≡ Less → value_cmp a c ≡ Less
chained a Null Null p q = absurd (cc)
chained Null Null (Int c) p q = absurd (cc)
chained Null Null (Text c) p q = absurd (cc)
chained (Int a) Null c p q = absurd (cc)
chained (Text a) Null c p q = absurd (cc)
chained a (Int b) Null p q = absurd (cc)
chained Null (Int b) (Int c) p q = refl
chained (Int a) (Int b) (Int c) p q = int_cmp_total.trans a b c p q
chained (Text a) (Int b) (Int c) p q = absurd (cc)
chained Null (Int b) (Text c) p q = refl
chained (Int a) (Int b) (Text c) p q = refl
chained (Text a) (Int b) (Text c) p q = absurd (cc)
chained a (Text b) Null p q = absurd (cc)
chained a (Text b) (Int c) p q = absurd (cc)
chained Null (Text b) (Text c) p q = refl
chained (Int a) (Text b) (Text c) p q = refl
chained (Text a) (Text b) (Text c) p q = nat_list_cmp_total.trans a b c p q

alike : (a b c : Value) → value_cmp a b ≡ Equal → value_cmp a c ≡ value_cmp b c
alike Null Null c p = refl
alike Null (Int b) c p = absurd (cc)
alike Null (Text b) c p = absurd (cc)
alike (Int a) Null c p = absurd (cc)
alike (Int a) (Int b) Null p = refl
alike (Int a) (Int b) (Int c) p = int_cmp_total.congr a b c p
alike (Int a) (Int b) (Text c) p = refl
alike (Int a) (Text b) c p = absurd (cc)
alike (Text a) Null c p = absurd (cc)
alike (Text a) (Int b) c p = absurd (cc)
alike (Text a) (Text b) Null p = refl
alike (Text a) (Text b) (Int c) p = refl
alike (Text a) (Text b) (Text c) p = nat_list_cmp_total.congr a b c p

pub value_total : IsTotalOrder value_cmp
value_total = record { antisymm = turned; trans = chained; congr = alike }

-- and so is the partial order that it is
pub value_partial : IsPartialOrder (eq_by_cmp value_cmp) (as_partial_cmp value_cmp)
value_partial = po value_total (λ a b. refl)
