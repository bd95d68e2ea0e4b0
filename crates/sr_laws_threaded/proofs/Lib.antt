mod Lists
mod Ran
mod Printed
mod UpLines
