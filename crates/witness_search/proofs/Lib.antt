mod Points
mod Leading
mod Attempts
mod Found
mod One
mod Answered
