-- Members of a list, under short names: the library's relation and its laws.
pub use mathlib.Core.List.Memᴰ.{append_cases as left-or-right}
pub use mathlib.Core.List.Memᴰ.{append_left as member-left}
pub use mathlib.Core.List.Memᴰ.{append_right as member_right}
pub use mathlib.Core.List.Memᴰ.{cases_cons as first-or-later}
pub use mathlib.Core.List.Memᴰ.{cast as equal-member}
pub use mathlib.Core.List.Memᴰ.{eq_of_singleton as only-member}
pub use mathlib.Core.List.Memᴰ.{head as first}
pub use mathlib.Core.List.Memᴰ.{map as map-member}
pub use mathlib.Core.List.Memᴰ.{not-nil as no_member}
pub use mathlib.Core.List.Memᴰ.{of_map as member-map}
pub use mathlib.Core.List.Memᴰ.{tail as later}
pub use mathlib.Core.List.{Memᴰ as Member}
