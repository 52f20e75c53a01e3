use Rattle.std.proofs.Common.{◌≡◌, ◌∙◌, ◌+◌, sym, ap, subst, arith, length, ℕ, refl}
use Rattle.aria_keypage.specs.declared.kind.Kind.{Kind}
use Rattle.aria_keypage.specs.Packed.{ArePacked, IsLeft}
use Rattle.aria_keypage.specs.Content.{Content, IsContent, item_bytes, width}
use Rattle.aria_keypage.specs.Split.{holding, left_half, IsMiddle}
use Rattle.aria_keypage.proofs.Divided.{holding-size, own-size, cut, divides}
use Rattle.aria_keypage.proofs.key_page.KeyPage.divide.Goals as goal

pub overflow_add-size : goal.overflow_add-size
overflow_add-size c = omega (arith, c.first_size.ensures, holding-size c.args.self.now c.args.items.now c.args.count c.requires.items, c.requires.most)

pub middle-at-requires-clause-most : goal.middle-at-requires-clause-most
middle-at-requires-clause-most c = omega (arith, holding-size c.args.self.now c.args.items.now c.args.count c.requires.items, c.requires.most)

pub overflow_add-at : goal.overflow_add-at
overflow_add-at c =
    let d : Content = c.args.self.now in
    let all : Content = holding d c.args.items.now in
    let kind : d.kind ≡ c.self.inside.kind = sym (ap (λ (e : Content). e.kind) c.self.view_is) in
    let packed_too : ArePacked (width c.self.inside.kind) all.items c.args.items.now = subst (λ (b : Kind). ArePacked (width b) all.items c.args.items.now) kind c.requires.items.packed in
    let left : IsLeft (width d.kind) all.items c.middle-at.result.0 c.middle-at.result.1.now = subst (λ (b : Kind). IsLeft (width b) all.items c.middle-at.result.0 c.middle-at.result.1.now) (sym kind) (c.middle-at.ensures.left all kind packed_too c.requires.items.count_is) in
    let size : c.first_size.result + length c.args.items.now ≡ length (item_bytes all) = omega (arith, c.first_size.ensures, holding-size d c.args.items.now c.args.count c.requires.items) in
    let middle : IsMiddle all c.middle-at.result.0 = c.middle-at.ensures.middle all kind packed_too c.requires.items.count_is size in
    let content : IsContent d = subst IsContent c.self.view_is c.self.invariant.content in
    omega (arith, (cut all c.args.items.now c.middle-at.result.1.now c.middle-at.result.0 c.requires.items.packed left middle c.requires.least).sizes.more, c.requires.items.count_is)

pub right_body-requires-clause-at : goal.right_body-requires-clause-at
right_body-requires-clause-at c =
    let d : Content = c.args.self.now in
    let all : Content = holding d c.args.items.now in
    let kind : d.kind ≡ c.self.inside.kind = sym (ap (λ (e : Content). e.kind) c.self.view_is) in
    let packed_too : ArePacked (width c.self.inside.kind) all.items c.args.items.now = subst (λ (b : Kind). ArePacked (width b) all.items c.args.items.now) kind c.requires.items.packed in
    let left : IsLeft (width d.kind) all.items c.middle-at.result.0 c.middle-at.result.1.now = subst (λ (b : Kind). IsLeft (width b) all.items c.middle-at.result.0 c.middle-at.result.1.now) (sym kind) (c.middle-at.ensures.left all kind packed_too c.requires.items.count_is) in
    let size : c.first_size.result + length c.args.items.now ≡ length (item_bytes all) = omega (arith, c.first_size.ensures, holding-size d c.args.items.now c.args.count c.requires.items) in
    let middle : IsMiddle all c.middle-at.result.0 = c.middle-at.ensures.middle all kind packed_too c.requires.items.count_is size in
    let content : IsContent d = subst IsContent c.self.view_is c.self.invariant.content in
    let done = divides d c.args.items.now c.middle-at.result.1.now c.as_slice.result.now c.args.count c.middle-at.result.0 content c.requires.items c.requires.least c.requires.most left middle
    (λ h. c.as_slice.ensures.value ∙ c.in_ok-between.ensures.entry all.items (subst (λ (n : ℕ). ArePacked n all.items c.args.items.now) (sym c.width.ensures) packed_too) h) in
    omega (arith, done.cut.sizes.more, c.requires.items.count_is)

pub right_body-requires-clause-left : goal.right_body-requires-clause-left
right_body-requires-clause-left c =
    let d : Content = c.args.self.now in
    let all : Content = holding d c.args.items.now in
    let kind : d.kind ≡ c.self.inside.kind = sym (ap (λ (e : Content). e.kind) c.self.view_is) in
    let packed_too : ArePacked (width c.self.inside.kind) all.items c.args.items.now = subst (λ (b : Kind). ArePacked (width b) all.items c.args.items.now) kind c.requires.items.packed in
    let left : IsLeft (width d.kind) all.items c.middle-at.result.0 c.middle-at.result.1.now = subst (λ (b : Kind). IsLeft (width b) all.items c.middle-at.result.0 c.middle-at.result.1.now) (sym kind) (c.middle-at.ensures.left all kind packed_too c.requires.items.count_is) in
    let size : c.first_size.result + length c.args.items.now ≡ length (item_bytes all) = omega (arith, c.first_size.ensures, holding-size d c.args.items.now c.args.count c.requires.items) in
    let middle : IsMiddle all c.middle-at.result.0 = c.middle-at.ensures.middle all kind packed_too c.requires.items.count_is size in
    let content : IsContent d = subst IsContent c.self.view_is c.self.invariant.content in
    left

pub right_body-requires-clause-entry : goal.right_body-requires-clause-entry
right_body-requires-clause-entry c =
    let d : Content = c.args.self.now in
    let all : Content = holding d c.args.items.now in
    let kind : d.kind ≡ c.self.inside.kind = sym (ap (λ (e : Content). e.kind) c.self.view_is) in
    let packed_too : ArePacked (width c.self.inside.kind) all.items c.args.items.now = subst (λ (b : Kind). ArePacked (width b) all.items c.args.items.now) kind c.requires.items.packed in
    let left : IsLeft (width d.kind) all.items c.middle-at.result.0 c.middle-at.result.1.now = subst (λ (b : Kind). IsLeft (width b) all.items c.middle-at.result.0 c.middle-at.result.1.now) (sym kind) (c.middle-at.ensures.left all kind packed_too c.requires.items.count_is) in
    let size : c.first_size.result + length c.args.items.now ≡ length (item_bytes all) = omega (arith, c.first_size.ensures, holding-size d c.args.items.now c.args.count c.requires.items) in
    let middle : IsMiddle all c.middle-at.result.0 = c.middle-at.ensures.middle all kind packed_too c.requires.items.count_is size in
    let content : IsContent d = subst IsContent c.self.view_is c.self.invariant.content in
    let done = divides d c.args.items.now c.middle-at.result.1.now c.as_slice.result.now c.args.count c.middle-at.result.0 content c.requires.items c.requires.least c.requires.most left middle
    (λ h. c.as_slice.ensures.value ∙ c.in_ok-between.ensures.entry all.items (subst (λ (n : ℕ). ArePacked n all.items c.args.items.now) (sym c.width.ensures) packed_too) h) in
    done.entry_is

pub right_body-requires-clause-room : goal.right_body-requires-clause-room
right_body-requires-clause-room c =
    let d : Content = c.args.self.now in
    let all : Content = holding d c.args.items.now in
    let kind : d.kind ≡ c.self.inside.kind = sym (ap (λ (e : Content). e.kind) c.self.view_is) in
    let packed_too : ArePacked (width c.self.inside.kind) all.items c.args.items.now = subst (λ (b : Kind). ArePacked (width b) all.items c.args.items.now) kind c.requires.items.packed in
    let left : IsLeft (width d.kind) all.items c.middle-at.result.0 c.middle-at.result.1.now = subst (λ (b : Kind). IsLeft (width b) all.items c.middle-at.result.0 c.middle-at.result.1.now) (sym kind) (c.middle-at.ensures.left all kind packed_too c.requires.items.count_is) in
    let size : c.first_size.result + length c.args.items.now ≡ length (item_bytes all) = omega (arith, c.first_size.ensures, holding-size d c.args.items.now c.args.count c.requires.items) in
    let middle : IsMiddle all c.middle-at.result.0 = c.middle-at.ensures.middle all kind packed_too c.requires.items.count_is size in
    let content : IsContent d = subst IsContent c.self.view_is c.self.invariant.content in
    let done = divides d c.args.items.now c.middle-at.result.1.now c.as_slice.result.now c.args.count c.middle-at.result.0 content c.requires.items c.requires.least c.requires.most left middle
    (λ h. c.as_slice.ensures.value ∙ c.in_ok-between.ensures.entry all.items (subst (λ (n : ℕ). ArePacked n all.items c.args.items.now) (sym c.width.ensures) packed_too) h) in
    done.right_room

pub overflow_sub-items : goal.overflow_sub-items
overflow_sub-items c =
    let d : Content = c.args.self.now in
    let all : Content = holding d c.args.items.now in
    let kind : d.kind ≡ c.self.inside.kind = sym (ap (λ (e : Content). e.kind) c.self.view_is) in
    let packed_too : ArePacked (width c.self.inside.kind) all.items c.args.items.now = subst (λ (b : Kind). ArePacked (width b) all.items c.args.items.now) kind c.requires.items.packed in
    let left : IsLeft (width d.kind) all.items c.middle-at.result.0 c.middle-at.result.1.now = subst (λ (b : Kind). IsLeft (width b) all.items c.middle-at.result.0 c.middle-at.result.1.now) (sym kind) (c.middle-at.ensures.left all kind packed_too c.requires.items.count_is) in
    let size : c.first_size.result + length c.args.items.now ≡ length (item_bytes all) = omega (arith, c.first_size.ensures, holding-size d c.args.items.now c.args.count c.requires.items) in
    let middle : IsMiddle all c.middle-at.result.0 = c.middle-at.ensures.middle all kind packed_too c.requires.items.count_is size in
    let content : IsContent d = subst IsContent c.self.view_is c.self.invariant.content in
    let done = divides d c.args.items.now c.middle-at.result.1.now c.as_slice.result.now c.args.count c.middle-at.result.0 content c.requires.items c.requires.least c.requires.most left middle
    (λ h. c.as_slice.ensures.value ∙ c.in_ok-between.ensures.entry all.items (subst (λ (n : ℕ). ArePacked n all.items c.args.items.now) (sym c.width.ensures) packed_too) h) in
    done.cut.inside

pub shorten-requires-clause-room : goal.shorten-requires-clause-room
shorten-requires-clause-room c =
    let d : Content = c.args.self.now in
    let all : Content = holding d c.args.items.now in
    let kind : d.kind ≡ c.self.inside.kind = sym (ap (λ (e : Content). e.kind) c.self.view_is) in
    let packed_too : ArePacked (width c.self.inside.kind) all.items c.args.items.now = subst (λ (b : Kind). ArePacked (width b) all.items c.args.items.now) kind c.requires.items.packed in
    let left : IsLeft (width d.kind) all.items c.middle-at.result.0 c.middle-at.result.1.now = subst (λ (b : Kind). IsLeft (width b) all.items c.middle-at.result.0 c.middle-at.result.1.now) (sym kind) (c.middle-at.ensures.left all kind packed_too c.requires.items.count_is) in
    let size : c.first_size.result + length c.args.items.now ≡ length (item_bytes all) = omega (arith, c.first_size.ensures, holding-size d c.args.items.now c.args.count c.requires.items) in
    let middle : IsMiddle all c.middle-at.result.0 = c.middle-at.ensures.middle all kind packed_too c.requires.items.count_is size in
    let content : IsContent d = subst IsContent c.self.view_is c.self.invariant.content in
    let done = divides d c.args.items.now c.middle-at.result.1.now c.as_slice.result.now c.args.count c.middle-at.result.0 content c.requires.items c.requires.least c.requires.most left middle
    (λ h. c.as_slice.ensures.value ∙ c.in_ok-between.ensures.entry all.items (subst (λ (n : ℕ). ArePacked n all.items c.args.items.now) (sym c.width.ensures) packed_too) h) in
    done.left_room

pub returns-clause-split : goal.returns-clause-split
returns-clause-split c =
    let d : Content = c.args.self.now in
    let all : Content = holding d c.args.items.now in
    let kind : d.kind ≡ c.self.inside.kind = sym (ap (λ (e : Content). e.kind) c.self.view_is) in
    let packed_too : ArePacked (width c.self.inside.kind) all.items c.args.items.now = subst (λ (b : Kind). ArePacked (width b) all.items c.args.items.now) kind c.requires.items.packed in
    let left : IsLeft (width d.kind) all.items c.middle-at.result.0 c.middle-at.result.1.now = subst (λ (b : Kind). IsLeft (width b) all.items c.middle-at.result.0 c.middle-at.result.1.now) (sym kind) (c.middle-at.ensures.left all kind packed_too c.requires.items.count_is) in
    let size : c.first_size.result + length c.args.items.now ≡ length (item_bytes all) = omega (arith, c.first_size.ensures, holding-size d c.args.items.now c.args.count c.requires.items) in
    let middle : IsMiddle all c.middle-at.result.0 = c.middle-at.ensures.middle all kind packed_too c.requires.items.count_is size in
    let content : IsContent d = subst IsContent c.self.view_is c.self.invariant.content in
    let done = divides d c.args.items.now c.middle-at.result.1.now c.as_slice.result.now c.args.count c.middle-at.result.0 content c.requires.items c.requires.least c.requires.most left middle
    (λ h. c.as_slice.ensures.value ∙ c.in_ok-between.ensures.entry all.items (subst (λ (n : ℕ). ArePacked n all.items c.args.items.now) (sym c.width.ensures) packed_too) h) in
    record {
      at = c.middle-at.result.0;
      middle = middle;
      sizes = done.cut.sizes;
      left = c.in_ok-left.ensures.page (left_half all c.middle-at.result.0) done.left_fits refl refl refl done.cut.front;
      right = c.in_ok-right.ensures;
      between = c.from_vec.ensures ∙ sym c.as_slice.ensures.value ∙ done.entry_is;
    }

pub returns-clause-bytes : goal.returns-clause-bytes
returns-clause-bytes c =
    let d : Content = c.args.self.now in
    let all : Content = holding d c.args.items.now in
    let kind : d.kind ≡ c.self.inside.kind = sym (ap (λ (e : Content). e.kind) c.self.view_is) in
    let packed_too : ArePacked (width c.self.inside.kind) all.items c.args.items.now = subst (λ (b : Kind). ArePacked (width b) all.items c.args.items.now) kind c.requires.items.packed in
    let left : IsLeft (width d.kind) all.items c.middle-at.result.0 c.middle-at.result.1.now = subst (λ (b : Kind). IsLeft (width b) all.items c.middle-at.result.0 c.middle-at.result.1.now) (sym kind) (c.middle-at.ensures.left all kind packed_too c.requires.items.count_is) in
    let size : c.first_size.result + length c.args.items.now ≡ length (item_bytes all) = omega (arith, c.first_size.ensures, holding-size d c.args.items.now c.args.count c.requires.items) in
    let middle : IsMiddle all c.middle-at.result.0 = c.middle-at.ensures.middle all kind packed_too c.requires.items.count_is size in
    let content : IsContent d = subst IsContent c.self.view_is c.self.invariant.content in
    let done = divides d c.args.items.now c.middle-at.result.1.now c.as_slice.result.now c.args.count c.middle-at.result.0 content c.requires.items c.requires.least c.requires.most left middle
    (λ h. c.as_slice.ensures.value ∙ c.in_ok-between.ensures.entry all.items (subst (λ (n : ℕ). ArePacked n all.items c.args.items.now) (sym c.width.ensures) packed_too) h) in
    omega (arith, c.in_ok-left.ensures.bytes, done.bytes, own-size d)
