mod StringLaws
mod StoredLaws
mod EditLaws
mod BitLaws
mod RangeLaws
mod StretchLaws
mod FrontLaws
mod ListedLaws
