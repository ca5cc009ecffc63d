use Rattle.std.proofs.Common.{◌≡◌, ◌-◌, ◌<◌, [], ◌∷◌, ◌++◌, length, Some, None, option_map, string_bytes, refl, sym, ap, ap₂, ◌∙◌, arith, rules}
use Rattle.json.specs.Token.{Token}
use Rattle.json.specs.Json.{parse_map, after_end_array, read_key, items, members, value}
use Rattle.json.specs.Reads.{token_of}
use Rattle.json.proofs.Grammar.{value_is, value-begin_array, value-begin_object, read_key-shorter}
use Rattle.serde_json.specs.Data as serde
use Rattle.serde_json.specs.Data.{no_members, array, object, put}
use Rattle.serde_json.specs.Read.{of_json, of_items, converted, number_of}
use Rattle.arz_json.proofs.Conversion.{of_array, of_object, next_item, bad_item, last_item, next_member, bad_member, bad_key, last_member}
use Rattle.arz_json.specs.Reading.{members_of, entries_tree}
use Rattle.arz_json.specs.declared.tree.Json.TheVariants.{Text as TextOf, List as ListOf, Object}
use Rattle.arz_json.proofs.Tokens.{before, trees_of-before, one_more, none_before, map-push, put_entry, found_number, no_number}
use Rattle.arz_json.proofs.reader.+read.Goals as goal

pub read_tree-returns-in_err-token-clause-not_json : goal.read_tree-returns-in_err-token-clause-not_json
read_tree-returns-in_err-token-clause-not_json t c refused =
    let empty : c.args.reader.now ≡ [] = grind arith in
    ap (converted of_json) (ap (value c.args.depth) empty ∙ value_is c.args.depth [])

pub read_tree-returns-then-depth-eq0-clause-not_json : goal.read_tree-returns-then-depth-eq0-clause-not_json
unfolding value
read_tree-returns-then-depth-eq0-clause-not_json t c never =
    let first : c.args.reader.now ≡ token_of c.in_ok-token.token ∷ c.next.new.self = grind arith in
    let none : c.args.depth ≡ 0 = omega arith in
    ap (converted of_json) (ap₂ value none (first ∙ ap (λ k. token_of k ∷ c.next.new.self) c.in-BeginArray.is))

pub read_tree-returns-then-depth-eq0-2-clause-not_json : goal.read_tree-returns-then-depth-eq0-2-clause-not_json
unfolding value
read_tree-returns-then-depth-eq0-2-clause-not_json t c never =
    let first : c.args.reader.now ≡ token_of c.in_ok-token.token ∷ c.next.new.self = grind arith in
    let none : c.args.depth ≡ 0 = omega arith in
    ap (converted of_json) (ap₂ value none (first ∙ ap (λ k. token_of k ∷ c.next.new.self) c.in-BeginObject.is))

pub read_tree-returns-in_err-read_items-in-BeginArray-clause-not_json : goal.read_tree-returns-in_err-read_items-in-BeginArray-clause-not_json
read_tree-returns-in_err-read_items-in-BeginArray-clause-not_json t c refused =
    let first : c.args.reader.now ≡ token_of c.in_ok-token.token ∷ c.next.new.self = grind arith in
    let opened = ap (converted of_json) (ap (value c.args.depth) (first ∙ ap (λ k. token_of k ∷ c.next.new.self) c.in-BeginArray.is) ∙ value-begin_array c.args.depth c.next.new.self (omega arith)) ∙ of_array (items (value (c.args.depth - 1)) (length c.next.new.self) c.next.new.self) in
    opened ∙ ap (parse_map array) (c.read_items.ensures.not_json (grind arith))

pub read_tree-returns-in_err-read_members-in-BeginObject-clause-not_json : goal.read_tree-returns-in_err-read_members-in-BeginObject-clause-not_json
read_tree-returns-in_err-read_members-in-BeginObject-clause-not_json t c refused =
    let first : c.args.reader.now ≡ token_of c.in_ok-token.token ∷ c.next.new.self = grind arith in
    let opened = ap (converted of_json) (ap (value c.args.depth) (first ∙ ap (λ k. token_of k ∷ c.next.new.self) c.in-BeginObject.is) ∙ value-begin_object c.args.depth c.next.new.self (omega arith)) ∙ of_object (members (value (c.args.depth - 1)) (length c.next.new.self) c.next.new.self) in
    opened ∙ ap (parse_map object) (c.read_members.ensures.not_json (grind arith))

pub read_tree-returns-in_ok-from_str-in-String-clause-ok : goal.read_tree-returns-in_ok-from_str-in-String-clause-ok
read_tree-returns-in_ok-from_str-in-String-clause-ok t c =
    let first : c.args.reader.now ≡ token_of c.in_ok-token.token ∷ c.next.new.self = grind arith in
    let is : c.args.reader.now ≡ Token.string c.in-String.text.now ∷ c.next.new.self = grind (arith, first) in (
      serde.string c.in-String.text.now,
      ap (converted of_json) (ap (value c.args.depth) is ∙ value_is c.args.depth _),
      ap TextOf (search rules),
    )

pub read_tree-returns-in-Bool-clause-ok : goal.read_tree-returns-in-Bool-clause-ok
read_tree-returns-in-Bool-clause-ok t c =
    let first : c.args.reader.now ≡ token_of c.in_ok-token.token ∷ c.next.new.self = grind arith in
    let is : c.args.reader.now ≡ Token.boolean c.in-Bool.b ∷ c.next.new.self = grind (arith, first) in
    (serde.boolean c.in-Bool.b, ap (converted of_json) (ap (value c.args.depth) is ∙ value_is c.args.depth _), refl)

pub read_tree-returns-in-Null-clause-ok : goal.read_tree-returns-in-Null-clause-ok
read_tree-returns-in-Null-clause-ok t c =
    let first : c.args.reader.now ≡ token_of c.in_ok-token.token ∷ c.next.new.self = grind arith in
    let is : c.args.reader.now ≡ Token.null ∷ c.next.new.self = grind (arith, first) in
    (serde.null, ap (converted of_json) (ap (value c.args.depth) is ∙ value_is c.args.depth _), refl)

pub read_tree-returns-in-Some-clause-ok : goal.read_tree-returns-in-Some-clause-ok
read_tree-returns-in-Some-clause-ok t c =
    let first : c.args.reader.now ≡ token_of c.in_ok-token.token ∷ c.next.new.self = grind arith in
    let is : c.args.reader.now ≡ Token.number c.in-Number.text.now ∷ c.next.new.self = grind (arith, first) in
    let found = found_number (number_of c.in-Number.text.now) c.in-Some.tree c.in-Some.ensures in
    (serde.number found.0, ap (converted of_json) (ap (value c.args.depth) is ∙ value_is c.args.depth _) ∙ ap (λ o. option_map (λ b. (b, c.next.new.self)) (option_map serde.number o)) found.1, found.2)

pub read_tree-returns-in-None-clause-not_json : goal.read_tree-returns-in-None-clause-not_json
read_tree-returns-in-None-clause-not_json t c refused =
    let first : c.args.reader.now ≡ token_of c.in_ok-token.token ∷ c.next.new.self = grind arith in
    let is : c.args.reader.now ≡ Token.number c.in-Number.text.now ∷ c.next.new.self = grind (arith, first) in
    ap (converted of_json) (ap (value c.args.depth) is ∙ value_is c.args.depth _) ∙ rw (no_number (number_of c.in-Number.text.now) c.in-None.ensures)

pub read_tree-returns-in-EndObject-clause-not_json : goal.read_tree-returns-in-EndObject-clause-not_json
read_tree-returns-in-EndObject-clause-not_json t c refused =
    let first : c.args.reader.now ≡ token_of c.in_ok-token.token ∷ c.next.new.self = grind arith in
    let none : value c.args.depth c.args.reader.now ≡ None = rw (value_is c.args.depth c.args.reader.now, first) (grind arith) in
    ap (converted of_json) none

pub read_tree-returns-in_ok-read_items-in-BeginArray-clause-ok : goal.read_tree-returns-in_ok-read_items-in-BeginArray-clause-ok
read_tree-returns-in_ok-read_items-in-BeginArray-clause-ok t c =
    let first : c.args.reader.now ≡ token_of c.in_ok-token.token ∷ c.next.new.self = grind arith in
    let opened = ap (converted of_json) (ap (value c.args.depth) (first ∙ ap (λ k. token_of k ∷ c.next.new.self) c.in-BeginArray.is) ∙ value-begin_array c.args.depth c.next.new.self (omega arith)) ∙ of_array (items (value (c.args.depth - 1)) (length c.next.new.self) c.next.new.self) in
    let found = c.in_ok-read_items-in-BeginArray.ensures.ok in
    (array found.0, opened ∙ ap (parse_map array) found.1, ap ListOf found.2)

pub read_tree-returns-in_ok-read_members-in-BeginObject-clause-ok : goal.read_tree-returns-in_ok-read_members-in-BeginObject-clause-ok
read_tree-returns-in_ok-read_members-in-BeginObject-clause-ok t c =
    let first : c.args.reader.now ≡ token_of c.in_ok-token.token ∷ c.next.new.self = grind arith in
    let opened = ap (converted of_json) (ap (value c.args.depth) (first ∙ ap (λ k. token_of k ∷ c.next.new.self) c.in-BeginObject.is) ∙ value-begin_object c.args.depth c.next.new.self (omega arith)) ∙ of_object (members (value (c.args.depth - 1)) (length c.next.new.self) c.next.new.self) in
    let found = c.in_ok-read_members-in-BeginObject.ensures.ok in
    (object found.0, opened ∙ ap (parse_map object) found.1, ap Object found.2)

pub read_items-items-init : goal.read_items-items-init
read_items-items-init t c =
    let all = converted of_items (items (value c.args.depth) (length c.args.reader.now) c.args.reader.now) in
    (length c.args.reader.now, [], omega arith, none_before all, c.new-found.ensures.items, omega arith)

pub read_items-returns-in_err-item-clause-not_json : goal.read_items-returns-in_err-item-clause-not_json
read_items-returns-in_err-item-clause-not_json t c refused =
    let p = value c.args.depth in
    let l = c.items in
    let going : (after_end_array l.reader ≡ None) × (c.take_end_array.new.self ≡ l.reader) = grind arith in
    l.invariant.3 ∙ ap (parse_map (before l.invariant.1)) (bad_item p l.invariant.0 l.reader going.0 (rw (← going.1) (c.read_tree.ensures.not_json (grind arith))))

pub read_items-items-preserved : goal.read_items-items-preserved
read_items-items-preserved t c =
    let p = value c.args.depth in
    let l = c.items in
    let n = l.invariant.0 in
    let ds = l.invariant.1 in
    let going : (after_end_array l.reader ≡ None) × (c.take_end_array.new.self ≡ l.reader) = grind arith in
    let done = c.in_ok-item.ensures in
    let d = done.ok.0 in
    let r = c.read_tree.new.reader in
    let less : length r < length l.reader = rw (← going.1) done.shorter in
    let turn = next_item p n l.reader r d (omega (arith, l.invariant.2)) going.0 (rw (← going.1) done.ok.1) in (
      n - 1,
      ds ++ d ∷ [],
      omega (arith, l.invariant.2),
      l.invariant.3 ∙ ap (parse_map (before ds)) turn ∙ one_more ds d _,
      c.in_ok-push.ensures.items ∙ ap₂ (λ js j. js ++ j ∷ []) l.invariant.4 done.ok.2 ∙ sym (map-push ds d),
      omega (arith, l.invariant.5),
    )

pub read_items-returns-clause-ok : goal.read_items-returns-clause-ok
read_items-returns-clause-ok t c =
    let p = value c.args.depth in
    let l = c.items in
    let ds = l.invariant.1 in
    let r = c.take_end_array.new.self in (
      before ds serde.no_items,
      l.invariant.3 ∙ ap (parse_map (before ds)) (last_item p l.invariant.0 l.reader r l.invariant.2 (grind arith)),
      c.from_std.ensures ∙ l.invariant.4 ∙ sym (trees_of-before ds),
    )

pub read_members-members-init : goal.read_members-members-init
read_members-members-init t c =
    (length c.args.reader.now, no_members, omega arith, refl, ap entries_tree c.new-found.ensures.empty, omega arith)

pub read_members-returns-in_err-name-clause-not_json : goal.read_members-returns-in_err-name-clause-not_json
read_members-returns-in_err-name-clause-not_json t c refused =
    let l = c.members in
    l.invariant.3 ∙ bad_key (value c.args.depth) l.invariant.1 l.invariant.0 l.reader c.in_err-name.ensures.value

pub read_members-returns-in_err-member-clause-not_json : goal.read_members-returns-in_err-member-clause-not_json
read_members-returns-in_err-member-clause-not_json t c refused =
    let l = c.members in
    let k = c.in-Some.name.now in
    let s = c.next_key.new.self in
    let named : read_key l.reader ≡ Some (Some k, s) = grind arith in
    l.invariant.3 ∙ bad_member (value c.args.depth) l.invariant.1 l.invariant.0 k l.reader s named (c.read_tree.ensures.not_json (grind arith))

pub read_members-members-preserved : goal.read_members-members-preserved
read_members-members-preserved t c =
    let p = value c.args.depth in
    let l = c.members in
    let n = l.invariant.0 in
    let old = l.invariant.1 in
    let k = c.in-Some.name.now in
    let s = c.next_key.new.self in
    let named : read_key l.reader ≡ Some (Some k, s) = grind arith in
    let done = c.in_ok-member.ensures in
    let d = done.ok.0 in
    let r = c.read_tree.new.reader in
    let less = read_key-shorter l.reader (Some k) s named in
    let lesser = done.shorter in
    let copied : string_bytes c.in_ok-key.key ≡ k = search rules in (
      n - 1,
      put k d old,
      omega (arith, l.invariant.2),
      l.invariant.3 ∙ next_member p old n k l.reader s r d (omega (arith, l.invariant.2)) named done.ok.1,
      ap entries_tree c.in_ok-insert.ensures.entries ∙ put_entry l.found.entries old c.in_ok-key.key c.in_ok-member.member d l.invariant.4 done.ok.2 ∙ ap (λ name. members_of (put name d old)) copied,
      omega (arith, l.invariant.5),
    )

pub read_members-returns-clause-ok : goal.read_members-returns-clause-ok
read_members-returns-clause-ok t c =
    let l = c.members in
    let old = l.invariant.1 in (
      old,
      l.invariant.3 ∙ last_member (value c.args.depth) old l.invariant.0 l.reader c.next_key.new.self l.invariant.2 (grind arith),
      c.in_ok-in_order.ensures ∙ l.invariant.4,
    )
