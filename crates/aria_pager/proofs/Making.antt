-- The group that makes a table is appended and brought to the disk.
use Rattle.std.proofs.Common.{◌≡◌, ◌∙◌, ℕ, ◌+◌, ◌≤◌, Bool, true, false, cond, List, ap, sym, refl, subst, arith, Option, None, Some}
use Rattle.std.specs.Prelude.{IsTrue}
use Rattle.std.specs.BTreeMap.{BTreeMap, get, UpdatesBy}
use Rattle.std.specs.Ordering.{nat_cmp}
use Rattle.std.specs.Cmp.Lexicographic.{slice_cmp, bytes_decides}
use Rattle.aria_page.specs.declared.place.Part.{Part}
use Rattle.aria_value.specs.Named.{same_name}
use Rattle.aria_host.specs.Folder.{Folder}
use Rattle.aria_host.specs.State.{State}
use Rattle.aria_record.specs.declared.record.Record.TheVariants.{CreateTable}
use Rattle.aria_record.specs.Logged.{Logged, lsn_at_place}
use Rattle.aria_log.specs.Log.{place}
use Rattle.aria_recovery.specs.Tables.{Maker, told_by, file, is_from}
use Rattle.aria_recovery.proofs.Naming.{names_older}
use Rattle.aria_pager.specs.declared.page_store.PageStore.{PageStore}
use Rattle.aria_pager.specs.PageStore.{name_at, opened}
use Rattle.aria_pager.specs.Pager.{IsPager, known}
use Rattle.aria_pager.specs.Turns.{alone}
use Rattle.aria_pager.specs.Filing.{AreTidy, maker_of}
use Rattle.aria_pager.proofs.Filed.{Follows}
use Rattle.aria_pager.proofs.Forgetting.{by_order}
use Rattle.aria_pager.proofs.Slots.{closed_name}

-- what the group says of a name
abbrev pub create_of : List ℕ → List ℕ → PageStore → Logged
create_of name stored store = alone store (CreateTable name false stored 1)

abbrev pub maker_at : List ℕ → PageStore → Maker
maker_at stored store = maker_of (lsn_at_place (place store.log)) stored

-- THE GROUP MAY STAND BEHIND the others: the table's files aren't there
pub create_follows : (store now : PageStore) (s : State) (base : ℕ) (start : Folder) (groups : List Logged) (forced : ℕ) (name stored : List ℕ) → opened now ≡ opened store → known store name ≡ None → ((part : Part) → s.folder (file name part) ≡ None)
    → IsPager store s base start groups forced → Follows store now s groups (create_of name stored store)
create_follows store now s base start groups forced name stored same unknown absent is = record {
  fewer = λ q on. subst (λ (o : List ℕ → Bool). IsTrue (o q)) same on;
  meets = λ q. record {
    under = λ none part n e. absurd (let f : false ≡ true = e in (cc));
    older = λ maker told part. ap (is_from maker.at) (gone q maker told part);
  };
  older = λ q maker d told left part. names_older s.folder d q part maker.at (is.names d left) (gone q maker told part);
  shut = λ q on. shut q on (same_name q name) refl;
}
  where
    gone : (q : List ℕ) (maker : Maker) → told_by q (create_of name stored store) ≡ Some (Some maker) → (part : Part) → s.folder (file q part) ≡ None
    gone q maker told part = by (same_name q name) refl told
      where
        by : (b : Bool) → same_name q name ≡ b → cond b (Some (Some (maker_at stored store))) None ≡ Some (Some maker) → s.folder (file q part) ≡ None
        by true on e = ap (λ (n : List ℕ). s.folder (file n part)) ((bytes_decides q name).0 on) ∙ absent part
        by false off e = absurd (cc)

    shut : (q : List ℕ) → IsTrue (opened now q) → (b : Bool) → same_name q name ≡ b → told_by q (create_of name stored store) ≡ None
    shut q on false off = ap (λ (b : Bool). cond b (Some (Some (maker_at stored store))) None) off
    shut q on true eq = absurd (let e : true ≡ false = sym (subst (λ (n : List ℕ). IsTrue (opened store n)) ((bytes_decides q name).0 eq) (subst (λ (o : List ℕ → Bool). IsTrue (o q)) same on)) ∙ closed_name store s.folder groups name is.slots unknown in (cc))

-- what is known with one name more
pub knows_with : (name : List ℕ) (n : ℕ) (tables tables' : BTreeMap (List ℕ) (Option ℕ)) → UpdatesBy (slice_cmp nat_cmp) (slice_cmp nat_cmp name) tables tables' (Some (Some n))
    → (q : List ℕ) → get (slice_cmp nat_cmp) tables' q ≡ cond (same_name name q) (Some (Some n)) (get (slice_cmp nat_cmp) tables q)
knows_with name n tables tables' updates q = updates.0 q ∙ ap (λ (b : Bool). cond b (Some (Some n)) (get (slice_cmp nat_cmp) tables q)) (by_order name q)

-- other tables are known as they were
pub known_else : (store now : PageStore) (name : List ℕ) (n : ℕ) → name_at now ≡ name_at store → known store name ≡ None → ((q : List ℕ) → known now q ≡ cond (same_name name q) (Some (Some n)) (known store q)) → AreTidy store
    → (m : ℕ) (q : List ℕ) → name_at now m ≡ Some q → known now q ≡ Some (Some m)
known_else store now name n same unknown knows is m q at = by (same_name name q) refl
  where
    was : known store q ≡ Some (Some m)
    was = is.known m q (ap (λ (f : ℕ → Option (List ℕ)). f m) (sym same) ∙ at)

    by : (b : Bool) → same_name name q ≡ b → known now q ≡ Some (Some m)
    by false off = knows q ∙ ap (λ (b : Bool). cond b (Some (Some n)) (known store q)) off ∙ was
    by true on = absurd (let e : None ≡ Some (Some m) = sym unknown ∙ ap (known store) ((bytes_decides name q).0 on) ∙ was in (cc))

-- the log's end isn't before
pub at_least : (a b n : ℕ) → a + b ≤ n → a ≤ n
at_least a b n le = omega (arith, le)
